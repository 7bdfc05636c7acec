-- The rows that are left are known as all were.
use Rattle.std.proofs.Common.{◌≡◌, ℕ, List, sym, subst, ◌∙◌, ap, drop}
use Rattle.std.specs.Prelude.{All}
use Rattle.std.proofs.lemmas.List.Elements.{All-drop}
use Rattle.aft_entries.specs.declared.operation.Row.{Row}
use Rattle.gribi_messages.specs.Rows.{RowHasKnownInstances}

pub still_known : (count : ℕ) (rows now after : List Row) → now ≡ rows → after ≡ drop 64 now → All (RowHasKnownInstances 1) rows → count ≡ 1 → All (RowHasKnownInstances count) after
still_known count rows now after same rest known one =
    subst (λ n. All (RowHasKnownInstances n) after) (sym one)
    (subst (λ l. All (RowHasKnownInstances 1) l) (sym (rest ∙ ap (λ l. drop 64 l) same)) (All-drop (RowHasKnownInstances 1) 64 rows known))
