-- What Collects answer are the first of a session's results, each once.
use Rattle.std.proofs.Common.{◌≡◌, ◌≤◌, ℕ, zero, suc, ◌+◌, Bool, true, false, List, [], ◌∷◌, ◌++◌, length, take, drop, refl, sym, ap, subst, ◌∙◌, arith}
use Rattle.std.specs.Prelude.{◌==◌, cond, option_to_list}
use Rattle.std.proofs.lemmas.List.{take-append-le, length-append, length-drop}
use Rattle.std.proofs.Math.Seq.{take-add}
use Rattle.std.proofs.lemmas.Bool.Decides.{nat_tests}
use Rattle.table_model.specs.declared.command.Command.{Command}
use Rattle.table_model.specs.declared.command.Command.TheVariants.{Begin, SetParams, Announce, Operate, Collect, Leave, Flush, Select, Take, Report, Halt}
use Rattle.table_model.specs.declared.command.Config.{Config}
use Rattle.table_model.specs.declared.reply.Reply.{Reply}
use Rattle.table_model.specs.declared.reply.Reply.TheVariants as reply
use Rattle.table_model.specs.Event.{Event}
use Rattle.table_model.specs.Jobs.{tasks, update_of}
use Rattle.table_model.specs.Laws.{event, collected_results, results_collected_by, batch_in, AnsweredOnce}
use Rattle.table_model.specs.Legal.{IsLawful}
use Rattle.table_model.specs.Reply.{reply_to, is_halted, is_gone}
use Rattle.table_model.specs.Results.{results, result_by, taken, collected_by, batch, batch_length, outstanding}

pub take_again : {X : Type 0} (n : ℕ) (xs : List X) → take (length (take n xs)) xs ≡ take n xs
take_again zero xs = refl
take_again (suc n) [] = refl
take_again (suc n) (x ∷ xs) = ap (λ rest. x ∷ rest) (take_again n xs)

take_short : {X : Type 0} (n : ℕ) (xs : List X) → length (take n xs) ≤ length xs
take_short zero xs = omega arith
take_short (suc n) [] = omega arith
take_short (suc n) (x ∷ xs) = let rest = take_short n xs in omega arith

-- the next of a list, and more behind it
one_more : {X : Type 0} (before all next more : List X) (n k : ℕ) → before ≡ take n all → n ≤ length all → k ≡ length next → next ≡ take (length next) (drop n all)
    → (before ++ next ≡ take (n + k) (all ++ more)) × (n + k ≤ length (all ++ more))
one_more before all next more n k so_far within many which =
    let short : length next ≤ length (drop n all) = subst (λ m. m ≤ length (drop n all)) (sym (ap length which)) (take_short (length next) (drop n all)) in
    let left = length-drop n all in
    let room : n + length next ≤ length all = omega arith in
    let both = length-append all more in (
      ap (λ x. x ++ next) so_far ∙ ap (λ x. take n all ++ x) which ∙ sym (take-add n (length next) all) ∙ sym (take-append-le (n + length next) all more room) ∙ ap (λ m. take (n + m) (all ++ more)) (sym many),
      omega arith,
    )

-- a reply hands the session the next of its results
record IsBatch (past : List Event) (session : ℕ) (r : Reply) : Type 0 where
  pub how_many : batch_length r ≡ length (batch_in r)
  pub which : batch_in r ≡ take (length (batch_in r)) (drop (taken past session) (results past session))

batch_of : (past : List Event) (session : ℕ) (halted gone : Bool) → IsBatch past session (cond halted reply.Stopped (cond gone reply.Gone (reply.Collected (batch past session) (outstanding past session))))
unfolding batch
batch_of past session true gone = record { how_many = refl; which = refl }
batch_of past session false true = record { how_many = refl; which = refl }
batch_of past session false false = record { how_many = refl; which = sym (take_again 256 (drop (taken past session) (results past session))) }

-- and so does an event
record Hands (past : List Event) (session : ℕ) (e : Event) : Type 0 where
  pub how_many : collected_by session e ≡ length (results_collected_by session e)
  pub which : results_collected_by session e ≡ take (length (results_collected_by session e)) (drop (taken past session) (results past session))

of_asker : (past : List Event) (session asker : ℕ) (r : Reply) (b : Bool) → (asker == session) ≡ b → (b ≡ true → IsBatch past session r) → Hands past session (event (Collect asker) r)
of_asker past session asker r false is told = record { how_many = rw is refl; which = rw is refl }
of_asker past session asker r true is told = record { how_many = rw is (told refl).how_many; which = rw is (told refl).which }

same_number : (a b : ℕ) → (a == b) ≡ true → a ≡ b
same_number a b is = grind (arith, nat_tests)

hands : (config : Config) (past : List Event) (session : ℕ) (command : Command) (r : Reply) → r ≡ reply_to config past command → Hands past session (event command r)
unfolding reply_to
hands config past session (Collect asker) r told =
    of_asker past session asker r (asker == session) refl
    (λ is. let P : ℕ → Type 0 = λ s. IsBatch past s r in subst P (same_number asker session is) (let Q : Reply → Type 0 = λ x. IsBatch past asker x in subst Q (sym told) (batch_of past asker (is_halted past) (is_gone past (Collect asker)))))
hands config past session Begin r told = record { how_many = refl; which = refl }
hands config past session (SetParams x0 x1) r told = record { how_many = refl; which = refl }
hands config past session (Announce x0 x1) r told = record { how_many = refl; which = refl }
hands config past session (Operate x0 x1 x2) r told = record { how_many = refl; which = refl }
hands config past session (Leave x0) r told = record { how_many = refl; which = refl }
hands config past session (Flush x0 x1 x2) r told = record { how_many = refl; which = refl }
hands config past session (Select x0 x1) r told = record { how_many = refl; which = refl }
hands config past session (Take x0 x1) r told = record { how_many = refl; which = refl }
hands config past session (Report x0 x1 x2) r told = record { how_many = refl; which = refl }
hands config past session Halt r told = record { how_many = refl; which = refl }

pub counted : (config : Config) (past : List Event) (session : ℕ) → IsLawful config past → (collected_results past session ≡ take (taken past session) (results past session)) × (taken past session ≤ length (results past session))
unfolding collected_results taken results
counted config [] session lawful = (refl, omega arith)
counted config (e ∷ past) session lawful =
    let before = counted config past session lawful.1 in
    let next = hands config past session e.command e.reply lawful.0 in
    one_more (collected_results past session) (results past session) (results_collected_by session e) (option_to_list (result_by session (tasks past) (update_of e))) (taken past session) (collected_by session e) before.0 before.1 next.how_many next.which

pub answered_once : (config : Config) → AnsweredOnce config
answered_once config past session lawful = (counted config past session lawful).0
