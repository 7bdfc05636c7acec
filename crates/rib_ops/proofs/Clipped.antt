-- Chains above a group, of at most so many groups and of at most more.
use Rattle.std.proofs.Common.{◌≡◌, ℕ, zero, suc, ◌+◌, ◌-◌, ◌≤◌, Bool, true, false, List, [], ◌∷◌, refl, sym, ap, ◌∙◌, arith}
use Rattle.std.specs.Prelude.{max, min, fold, cond, nat_lt}
use Rattle.std.proofs.lemmas.Bool.Decides.{nat_tests}
use Rattle.aft_entries.specs.declared.entry.Entry.{Entry}
use Rattle.aft_entries.specs.declared.key.Key.{Key}
use Rattle.table_model.specs.Table.{above, names_key, backup_of}
use Rattle.rib_ops.proofs.Chains.{longer}

fold_clipped : (n : ℕ) (f g : ℕ → Entry → ℕ) → ((most : ℕ) (e : Entry) → f (min n most) e ≡ min n (g most e)) → (most : ℕ) (table : List Entry) → fold f (min n most) table ≡ min n (fold g most table)
fold_clipped n f g step most [] = refl
fold_clipped n f g step most (e ∷ table) = ap (λ m. fold f m table) (step most e) ∙ fold_clipped n f g step (g most e) table

max_clipped : (n a b c : ℕ) → c ≡ min n b → max (min (suc n) a) (1 + c) ≡ min (suc n) (max a (1 + b))
max_clipped n a b c is = grind (arith, nat_tests)

by_name : (b : Bool) (n a x y : ℕ) → x ≡ min n y → cond b (max (min (suc n) a) (1 + x)) (min (suc n) a) ≡ min (suc n) (cond b (max a (1 + y)) a)
by_name true n a x y is = max_clipped n a y x is
by_name false n a x y is = refl

above_clipped : (n most : ℕ) (table : List Entry) (group : Key) → n ≤ most → above n table group ≡ min n (above most table group)
above_clipped zero most table group least = grind (arith, nat_tests)
above_clipped (suc n) zero table group least = absurd (omega arith)
above_clipped (suc n) (suc most) table group least =
    let none : min (suc n) 0 ≡ 0 = grind (arith, nat_tests) in
    let clipped = fold_clipped (suc n) (longer n table group) (longer most table group)
    (λ so_far e. by_name (names_key group (backup_of e)) n so_far (above n table e.key) (above most table e.key) (above_clipped n most table e.key (omega arith))) 0 table in
    ap (λ m. fold (longer n table group) m table) (sym none) ∙ clipped

past : (below a b : ℕ) → below ≤ 4 → a ≡ min (4 - below) b → nat_lt 4 (1 + below + a) ≡ nat_lt 4 (1 + below + b)
past below a b least is = grind (arith, nat_tests)

-- no more groups need be looked for than are too many
pub past_four : (table : List Entry) (group : Key) (below a : ℕ) → below ≤ 4 → a ≡ above (4 - below) table group → nat_lt 4 (1 + below + a) ≡ nat_lt 4 (1 + below + above 4 table group)
past_four table group below a least is = past below a (above 4 table group) least (is ∙ above_clipped (4 - below) 4 table group (omega arith))
