-- Each result without a failure that a Collect handed out was reported before.
use Rattle.std.proofs.Common.{◌≡◌, ℕ, zero, suc, List, [], ◌∷◌, ◌++◌, take, Some, None, Option, refl, sym, ap, subst, ◌∙◌}
use Rattle.std.specs.Prelude.{option_to_list}
use Rattle.table_model.specs.declared.command.Command.TheVariants.{Report}
use Rattle.table_model.specs.declared.command.Config.{Config}
use Rattle.table_model.specs.declared.job.Verdict.TheVariants.{Programmed}
use Rattle.table_model.specs.declared.reply.Reply.TheVariants.{Reported}
use Rattle.table_model.specs.declared.results.FibResult.{FibResult}
use Rattle.table_model.specs.Event.{Event}
use Rattle.table_model.specs.Jobs.{tasks, update_of}
use Rattle.table_model.specs.Laws.{event}
use Rattle.table_model.specs.Legal.{IsLawful}
use Rattle.table_model.specs.Results.{results, result_by, taken}
use Rattle.table_laws.specs.CollectedResults.{WasReported, CollectedWasReported}
use Rattle.table_laws.proofs.Collected.{answered_once}
use Rattle.table_laws.proofs.Completions.{programmed_was_reported}
use Rattle.table_laws.proofs.Reports.{programmed_there}

abbrev Every : (FibResult → Type 0) → List FibResult → Type 0
Every P [] = Unit {0}
Every P (x ∷ xs) = P x × Every P xs

every_append : (P : FibResult → Type 0) (xs ys : List FibResult) → Every P xs → Every P ys → Every P (xs ++ ys)
every_append P [] ys h k = k
every_append P (x ∷ xs) ys h k = (h.0, every_append P xs ys h.1 k)

every_weaken : (P Q : FibResult → Type 0) (xs : List FibResult) → ((x : FibResult) → P x → Q x) → Every P xs → Every Q xs
every_weaken P Q [] step h = tt
every_weaken P Q (x ∷ xs) step h = (step x h.0, every_weaken P Q xs step h.1)

every_take : (P : FibResult → Type 0) (n : ℕ) (xs : List FibResult) → Every P xs → Every P (take n xs)
every_take P zero xs h = tt
every_take P (suc n) [] h = tt
every_take P (suc n) (x ∷ xs) h = (h.0, every_take P n xs h.1)

every_at : (P : FibResult → Type 0) (before after : List FibResult) (x : FibResult) → Every P (before ++ x ∷ after) → P x
every_at P [] after x h = h.0
every_at P (b ∷ before) after x h = every_at P before after x h.1

abbrev Fine : List Event → ℕ → FibResult → Type 0
Fine past session result = result.failed ≡ None → WasReported past session result

grown : (e : Event) (past : List Event) (session : ℕ) (result : FibResult) → Fine past session result → Fine (e ∷ past) session result
grown e past session result h fine =
    let was = h fine in
    record {
      later = e ∷ was.later;
      earlier = was.earlier;
      number = was.number;
      task = was.task;
      stands = ap (λ es. e ∷ es) was.stands;
      made = was.made;
      same_id = was.same_id;
      wanted = was.wanted;
      there = was.there;
    }

brought : (config : Config) (e : Event) (past : List Event) (session : ℕ) (o : Option FibResult) → IsLawful config (e ∷ past) → result_by session (tasks past) (update_of e) ≡ o → Every (Fine (e ∷ past) session) (option_to_list o)
brought config e past session None lawful is = tt
brought config e past session (Some result) lawful is = (told, tt)
  where
    told : Fine (e ∷ past) session result
    told fine =
        let was = programmed_was_reported past e session result is fine in
        let stands : e ∷ past ≡ event (Report was.0 Programmed result.now) Reported ∷ past =
        ap (λ c. event c e.reply ∷ past) was.2 ∙ ap (λ r. event (Report was.0 Programmed result.now) r ∷ past) was.3 in
        record {
          later = [];
          earlier = past;
          number = was.0;
          task = was.1;
          stands = stands;
          made = was.4;
          same_id = was.5;
          wanted = was.6;
          there = programmed_there config past was.0 result.now was.1 (subst (IsLawful config) stands lawful) was.4;
        }

each_fine : (config : Config) (past : List Event) (session : ℕ) → IsLawful config past → Every (Fine past session) (results past session)
unfolding results
each_fine config [] session lawful = tt
each_fine config (e ∷ past) session lawful =
    every_append (Fine (e ∷ past) session) (results past session) (option_to_list (result_by session (tasks past) (update_of e)))
    (every_weaken (Fine past session) (Fine (e ∷ past) session) (results past session) (grown e past session) (each_fine config past session lawful.1))
    (brought config e past session (result_by session (tasks past) (update_of e)) lawful refl)

pub collected_reported : (config : Config) → CollectedWasReported config
collected_reported config past session before after result lawful is =
    every_at (Fine past session) before after result
    (subst (Every (Fine past session)) (sym (answered_once config past session lawful) ∙ is) (every_take (Fine past session) (taken past session) (results past session) (each_fine config past session lawful)))
