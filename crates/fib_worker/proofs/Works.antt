-- What a device's answer to a job's work does by look-up.
use Rattle.std.proofs.Common.{◌≡◌, Bool, true, false, List, Some, None, Option, refl, sym, ap, ◌∙◌, subst}
use Rattle.std.specs.Prelude.{cond}
use Rattle.aft_entries.specs.declared.entry.Entry.{Entry}
use Rattle.aft_entries.specs.declared.key.Key.{Key}
use Rattle.aft_entries.specs.declared.operation.Act.{Act}
use Rattle.aft_entries.specs.declared.operation.Act.TheVariants.{Done, Failed}
use Rattle.aft_entries.specs.Devices.{Acts, SetsTo, entry_at}
use Rattle.aft_entries.specs.Order.{key_eq}
use Rattle.aft_entries.proofs.OrderLemmas.{key_eq_same}
use Rattle.table_model.specs.declared.job.Verdict.{Verdict}
use Rattle.table_model.specs.declared.job.Work.{Work}
use Rattle.table_model.specs.declared.job.Work.TheVariants.{Install, Remove}
use Rattle.table_model.specs.Jobs.{effect, work_key}
use Rattle.table_model.specs.Laws.{left_by}
use Rattle.table_model.specs.Table.{lookup}
use Rattle.table_model.proofs.Effects.{effect_here, effect_there}
use Rattle.fib_worker.specs.Doing.{Does, HasEffect, verdict_of}

-- what a device has under a key is what a table has there
pub entry_is_lookup : (key : Key) (entries : List Entry) → entry_at key entries ≡ lookup key entries
unfolding entry_at lookup
entry_is_lookup key entries = refl

module _ (work : Work) (before after : List Entry) (key : Key) where
  set_by : (b : Bool) → key_eq key (work_key work) ≡ b → entry_at key after ≡ cond b (left_by work) (entry_at key before)
      → lookup key after ≡ lookup key (effect before work)
  set_by true same sets =
      sym (entry_is_lookup key after) ∙ (sets ∙ sym (ap (λ (k : Key). lookup k (effect before work)) (key_eq_same key (work_key work) same) ∙ effect_here before work))
  set_by false other sets =
      sym (entry_is_lookup key after) ∙ (sets ∙ (entry_is_lookup key before ∙ sym (effect_there key before work other)))

-- who set the work's key to what the work leaves there did the work
has_effect : (work : Work) (before after : Option (List Entry)) → SetsTo (work_key work) (left_by work) before after → HasEffect work before after
has_effect work None None sets = tt
has_effect work None (Some after) sets = sets
has_effect work (Some before) None sets = sets
has_effect work (Some before) (Some after) sets = λ key. set_by work before after key (key_eq key (work_key work)) refl (sets key)

does : (work : Work) (answer : Act) (before after : Option (List Entry)) → Acts answer (work_key work) (left_by work) before after → Does (verdict_of answer) work before after
does work Done before after acts = has_effect work before after acts
does work Failed before after acts = acts

pub installed : (work : Work) (entry : Entry) (answer : Act) (verdict : Verdict) (before after : Option (List Entry)) → work ≡ Install entry → verdict ≡ verdict_of answer
    → Acts answer entry.key (Some entry) before after → Does verdict work before after
installed work entry answer verdict before after is told acts =
    subst (λ (w : Work). Does verdict w before after) (sym is) (subst (λ (v : Verdict). Does v (Install entry) before after) (sym told) (does (Install entry) answer before after acts))

pub removed : (work : Work) (key : Key) (answer : Act) (verdict : Verdict) (before after : Option (List Entry)) → work ≡ Remove key → verdict ≡ verdict_of answer
    → Acts answer key None before after → Does verdict work before after
removed work key answer verdict before after is told acts =
    subst (λ (w : Work). Does verdict w before after) (sym is) (subst (λ (v : Verdict). Does v (Remove key) before after) (sym told) (does (Remove key) answer before after acts))
