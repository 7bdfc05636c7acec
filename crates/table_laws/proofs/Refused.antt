-- What it says that an operation isn't refused.
use Rattle.std.proofs.Common.{◌≡◌, ℕ, Bool, true, false, List, [], ◌∷◌, None, refl}
use Rattle.std.specs.Prelude.{not, ◌&&◌, nat_le, length}
use Rattle.aft_entries.specs.declared.entry.Entry.{Entry}
use Rattle.aft_entries.specs.declared.key.Key.{Key}
use Rattle.aft_entries.specs.declared.operation.Ask.TheVariants.{Put, Remove}
use Rattle.aft_entries.specs.declared.operation.Reason.TheVariants.{UnknownInstance, BadKey, BadPayload, NotThere, Unresolved, BackupDepth, InUse, TableFull}
use Rattle.aft_entries.specs.InstanceNames.{first_that_holds}
use Rattle.table_model.specs.Table.{has, resolves, used, refusal, is_bad_name, is_bad_payload, is_too_deep}

-- where no test holds, these don't
put_tests : (a b c d e f g : Bool) → first_that_holds ((a, UnknownInstance) ∷ (b, BadKey) ∷ (c, BadPayload) ∷ (d, NotThere) ∷ (e, Unresolved) ∷ (f, BackupDepth) ∷ (g, TableFull) ∷ []) ≡ None → (a ≡ false) × (c ≡ false) × (e ≡ false) × (f ≡ false)
put_tests true b c d e f g h = cc
put_tests false true c d e f g h = cc
put_tests false false true d e f g h = cc
put_tests false false false true e f g h = cc
put_tests false false false false true f g h = cc
put_tests false false false false false true g h = cc
put_tests false false false false false false g h = (refl, refl, refl, refl)

remove_tests : (a b c : Bool) → first_that_holds ((a, UnknownInstance) ∷ (b, BadKey) ∷ (c, InUse) ∷ []) ≡ None → c ≡ false
remove_tests true b c h = cc
remove_tests false true c h = cc
remove_tests false false true h = cc
remove_tests false false false h = refl

pub not_not : (b : Bool) → not b ≡ false → b ≡ true
not_not true h = refl
not_not false h = cc

all_tests : (instances limit : ℕ) (table : List Entry) (entry : Entry) (replace : Bool) → refusal instances limit table (Put entry replace) ≡ None
    → (nat_le instances entry.key.instance ≡ false) × (is_bad_payload instances entry.payload ≡ false) × (not (resolves table entry) ≡ false) × (is_too_deep table entry ≡ false)
unfolding refusal
all_tests instances limit table entry replace h =
    put_tests (nat_le instances entry.key.instance) (is_bad_name entry.key.name) (is_bad_payload instances entry.payload) (replace && not (has table entry.key)) (not (resolves table entry)) (is_too_deep table entry) (not replace && not (has table entry.key) && nat_le limit (length table)) h

pub put_resolves : (instances limit : ℕ) (table : List Entry) (entry : Entry) (replace : Bool) → refusal instances limit table (Put entry replace) ≡ None → resolves table entry ≡ true
put_resolves instances limit table entry replace h = not_not (resolves table entry) (all_tests instances limit table entry replace h).2

pub put_shallow : (instances limit : ℕ) (table : List Entry) (entry : Entry) (replace : Bool) → refusal instances limit table (Put entry replace) ≡ None → is_too_deep table entry ≡ false
put_shallow instances limit table entry replace h = (all_tests instances limit table entry replace h).3

pub put_known : (instances limit : ℕ) (table : List Entry) (entry : Entry) (replace : Bool) → refusal instances limit table (Put entry replace) ≡ None
    → (nat_le instances entry.key.instance ≡ false) × (is_bad_payload instances entry.payload ≡ false)
put_known instances limit table entry replace h = let all = all_tests instances limit table entry replace h in (all.0, all.1)

pub remove_unused : (instances limit : ℕ) (table : List Entry) (key : Key) → refusal instances limit table (Remove key) ≡ None → used table key ≡ false
unfolding refusal
remove_unused instances limit table key h = remove_tests (nat_le instances key.instance) (is_bad_name key.name) (used table key) h
