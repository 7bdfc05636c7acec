use Rattle.std.proofs.Common.{◌≡◌, ℕ, zero, suc, ◌+◌, ◌-◌, ◌*◌, ◌/◌, ◌%◌, ◌^◌, ◌<◌, ◌≤◌, List, [], ◌∷◌, ◌++◌, refl, sym, ap, subst, ◌∙◌, arith, append_assoc}
use Rattle.std.proofs.lemmas.Bool.{le-ltb}
use Rattle.std.proofs.lemmas.Nat.{pow-add, div_below}
use Rattle.hpack_tables.specs.Writing.{groups_text}
use Rattle.hpack_tables.proofs.encoder.integers.+put_groups.Goals as goal

wider : (left : ℕ) → (left ≡ 0 → ⊥) → 2 ^ (7 * (left + 1)) ≡ 2 ^ (7 * (left - 1 + 1)) * 128
wider left some = ap (λ (n : ℕ). 2 ^ n) parts ∙ pow-add 2 (7 * (left - 1 + 1)) 7
  where
    parts : 7 * (left + 1) ≡ 7 * (left - 1 + 1) + 7
    parts = omega arith

smaller : (left n : ℕ) → (left ≡ 0 → ⊥) → n < 2 ^ (7 * (left + 1)) → n / 128 < 2 ^ (7 * (left - 1 + 1))
smaller left n some lt = div_below n 128 (2 ^ (7 * (left - 1 + 1))) (omega arith) (subst (λ (m : ℕ). n < m) (wider left some) lt)

one_group : (left n : ℕ) → (left ≡ 0 → ⊥) → 128 ≤ n → groups_text left n ≡ (128 + n % 128) ∷ groups_text (left - 1) (n / 128)
unfolding groups_text
one_group zero n some le = absurd (some refl)
one_group (suc k) n some le = rw (le-ltb n 128 le) (ap (λ (x : ℕ). (128 + n % 128) ∷ groups_text x (n / 128)) less)
  where
    less : k ≡ suc k - 1
    less = omega arith

grown : (old middle new more whole : List ℕ) (byte : ℕ) → new ≡ middle ++ more → middle ≡ old ++ byte ∷ [] → whole ≡ byte ∷ more → new ≡ old ++ whole
grown old middle new more whole byte n e w = n ∙ ap (λ (x : List ℕ). x ++ more) e ∙ append_assoc old (byte ∷ []) more ∙ ap (λ (x : List ℕ). old ++ x) (sym w)

pub put_groups-requires : goal.put_groups-requires
put_groups-requires t c = (
  omega arith,
  (omega (arith, c.requires.few), (smaller c.args.left c.args.n c.if-left-eq0.false c.requires.small, omega (arith, c.requires.room, c.if-left-eq0.false, c.push_reserved-2.ensures.len, c.push_reserved-2.ensures.capacity))),
)

pub returns-clause-items : goal.returns-clause-items
returns-clause-items t c =
    grown c.args.out.now.items c.push_reserved-2.new.self.items c.put_groups.new.out.items (groups_text (c.args.left - 1) (c.args.n / 128)) (groups_text c.args.left c.args.n) (128 + c.args.n % 128)
    c.put_groups.ensures.items c.push_reserved-2.ensures.items (one_group c.args.left c.args.n c.if-left-eq0.false c.if-n-lt128.false)
