-- Members in order of their index: those of one next hop stand side by side.
use Rattle.std.proofs.Common.{◌≡◌, ℕ, ◌≤◌, Bool, true, false, List, [], ◌∷◌, map, length, slice_index_or, refl, sym, arith}
use Rattle.std.specs.Prelude.{◌||◌, nat_eq, nat_lt, nat_le}
use Rattle.std.specs.List.{list_any, list_all}
use Rattle.std.proofs.lemmas.Bool.Decides.{nat_tests}
use Rattle.aft_entries.specs.declared.lists.Member.{Member}
use Rattle.aft_entries.specs.MemberOrder.{is_in_order}
use Rattle.table_model.proofs.Tests.{and_left, and_right}

none_above : (hop low : ℕ) (members : List Member) → nat_lt hop low ≡ true → list_all (λ member. nat_le low member.hop) members ≡ true → list_any (λ other. nat_eq other hop) (map (λ (member : Member). member.hop) members) ≡ false
none_above hop low [] above all = refl
none_above hop low (member ∷ members) above all =
    let here : nat_le low member.hop ≡ true = and_left (nat_le low member.hop) (list_all (λ m. nat_le low m.hop) members) all in
    let differs : nat_eq member.hop hop ≡ false = grind (arith, nat_tests) in
    rw (differs, none_above hop low members above (and_right (nat_le low member.hop) (list_all (λ m. nat_le low m.hop) members) all)) refl

by_first : (b : Bool) (hop : ℕ) (member : Member) (members : List Member) → nat_eq member.hop hop ≡ b → nat_le hop member.hop ≡ true → list_all (λ m. nat_le member.hop m.hop) members ≡ true
    → b ≡ b || list_any (λ other. nat_eq other hop) (map (λ (m : Member). m.hop) members)
by_first true hop member members same least all = refl
by_first false hop member members differs least all =
    let above : nat_lt hop member.hop ≡ true = grind (arith, nat_tests) in sym (none_above hop member.hop members above all)

-- where no member has a lower next hop, one has it that the first has
pub first_tells : (members : List Member) (hop : ℕ) (other : Member) → 1 ≤ length members → is_in_order members ≡ true → list_all (λ member. nat_le hop member.hop) members ≡ true
    → nat_eq (slice_index_or members 0 other).hop hop ≡ list_any (λ other. nat_eq other hop) (map (λ (member : Member). member.hop) members)
first_tells [] hop other some order least = absurd (omega arith)
first_tells (member ∷ members) hop other some order least =
    by_first (nat_eq member.hop hop) hop member members refl
    (and_left (nat_le hop member.hop) (list_all (λ m. nat_le hop m.hop) members) least)
    (and_left (list_all (λ m. nat_le member.hop m.hop) members) (is_in_order members) order)
