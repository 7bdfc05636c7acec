-- Steps of the walks along backup groups and references.
use Rattle.std.proofs.Common.{◌≡◌, ◌<◌, ◌+◌, ◌-◌, ℕ, zero, suc, List, ◌∷◌, Some, Bool, true, false, length, take, get_or, max, ◌∙◌, refl, arith}
use Rattle.std.specs.Prelude.{option_and_then, fold, if◌then◌else◌, ◌&&◌, ◌||◌}
use Rattle.std.specs.List.{list_any}
use Rattle.std.proofs.lemmas.List.Folds.{list_any_more, list_any_at}
use native.Mathlib.Numerals.{unary_clauses}
use Rattle.aft_entries.specs.declared.entry.Entry.{Entry}
use Rattle.aft_entries.specs.declared.key.Key.{Key}
use Rattle.aft_entries.specs.References.{refers}
use Rattle.table_model.specs.declared.command.Which.{Which}
use Rattle.table_model.specs.Table.{chain, above, lookup, backup_of, names_key, stays}

pub chain_on : (most : ℕ) (table : List Entry) (group : Key) → 0 < most → chain most table (Some group) ≡ group ∷ chain (most - 1) table (option_and_then backup_of (lookup group table))
chain_on zero table group some = absurd (omega arith)
chain_on (suc n) table group some = simp unary_clauses refl

abbrev pub longer : ℕ → List Entry → Key → ℕ → Entry → ℕ
longer n table group most e = if names_key group (backup_of e) then max most (1 + above n table e.key) else most

abbrev pub longest_of : ℕ → List Entry → Key → List Entry → ℕ
longest_of n table group seen = fold (longer n table group) 0 seen

pub above_is : (most : ℕ) (table : List Entry) (group : Key) → 0 < most → above most table group ≡ longest_of (most - 1) table group table
above_is zero table group some = absurd (omega arith)
above_is (suc n) table group some = simp unary_clauses refl

-- whether a referrer stays that is in these entries
abbrev pub holder_stays : ℕ → List Entry → Which → Key → Entry → Bool
holder_stays n table which key e = stays n table which e.key && refers e key

pub stays_is : (most : ℕ) (table : List Entry) (which : Which) (key : Key) → 0 < most → stays most table which key ≡ (stays (most - 1) table which key || list_any (holder_stays (most - 1) table which key) table)
stays_is zero table which key some = absurd (omega arith)
stays_is (suc n) table which key some = simp unary_clauses refl

or_true : (b : Bool) → b || true ≡ true
or_true true = refl
or_true false = refl

or_false : (b : Bool) → b || false ≡ b
or_false true = refl
or_false false = refl

and_false : (b : Bool) → b && false ≡ false
and_false true = refl
and_false false = refl

module _ (most : ℕ) (table : List Entry) (which : Which) (key : Key) (some : 0 < most) where
  pub stays_sooner : stays (most - 1) table which key ≡ true → stays most table which key ≡ true
  stays_sooner sooner = stays_is most table which key some ∙ rw sooner refl

  pub stays_by : (i : ℕ) (e : Entry) → i < length table → e ≡ get_or table i e → refers e key ≡ true → stays (most - 1) table which e.key ≡ true → stays most table which key ≡ true
  stays_by i e within is held there =
      let here : holder_stays (most - 1) table which key (get_or table i e) ≡ true = rw (← is, held, there) refl in
      stays_is most table which key some ∙ rw (list_any_at (holder_stays (most - 1) table which key) table i e within here) (or_true _)

  pub goes : stays (most - 1) table which key ≡ false → list_any (holder_stays (most - 1) table which key) table ≡ false → stays most table which key ≡ false
  goes sooner by = stays_is most table which key some ∙ rw (sooner, by) refl

  pub none_more : (i : ℕ) (e : Entry) → i < length table → e ≡ get_or table i e → list_any (holder_stays (most - 1) table which key) (take i table) ≡ false → holder_stays (most - 1) table which key e ≡ false → list_any (holder_stays (most - 1) table which key) (take (i + 1) table) ≡ false
  none_more i e within is before here = list_any_more (holder_stays (most - 1) table which key) table i e within ∙ rw (before, ← is, here) refl
