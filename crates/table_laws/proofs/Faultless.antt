-- Where no device fails nothing is skipped: a job that isn't blocked finds what it needs in the forwarding table.
use Rattle.std.proofs.Common.{◌≡◌, ℕ, Bool, true, false, List, [], ◌∷◌, ◌++◌, Some, None, Option, refl, sym, ap, subst, ◌∙◌}
use Rattle.std.specs.Prelude.{not, ◌&&◌, ◌||◌, ◌==◌, max, cond, map, is_some, ℤ}
use Rattle.std.specs.List.{list_all, list_any}
use Rattle.std.proofs.lemmas.List.Folds.{list_any-append}
use Rattle.aft_entries.specs.declared.entry.Entry.{Entry}
use Rattle.aft_entries.specs.declared.key.Key.{Key}
use Rattle.aft_entries.specs.declared.operation.Reason.{Reason}
use Rattle.aft_entries.specs.Order.{key_eq}
use Rattle.aft_entries.specs.References.{refs_of, is_among, refers}
use Rattle.aft_entries.proofs.OrderLemmas.{key_eq_same, key_eq_refl}
use Rattle.table_model.specs.declared.command.Command.{Command}
use Rattle.table_model.specs.declared.command.Command.TheVariants.{Begin, SetParams, Announce, Operate, Collect, Leave, Flush, Select, Take, Report, Halt}
use Rattle.table_model.specs.declared.command.Config.{Config}
use Rattle.table_model.specs.declared.job.JobNumber.{JobNumber}
use Rattle.table_model.specs.declared.job.Verdict.TheVariants as verdict
use Rattle.table_model.specs.declared.job.Work.{Work}
use Rattle.table_model.specs.declared.job.Work.TheVariants.{Install, Remove}
use Rattle.table_model.specs.declared.params.Params.{Params}
use Rattle.table_model.specs.declared.reply.Reply.{Reply}
use Rattle.table_model.specs.declared.reply.Reply.TheVariants as reply
use Rattle.table_model.specs.Election.{highest}
use Rattle.table_model.specs.Event.{Event, is_reported}
use Rattle.table_model.specs.Jobs.{Task, JobUpdate, Outcome, Out, Programmed, PassedOver, tasks, tracked_tasks, update_of, update_by_take, turned, outcome_of, number_eq, number_lt, is_undone, is_out, is_waiting, is_programmed, is_skipped, conflict, effect, work_key, work_refs, touches, refs_before, fib}
use Rattle.table_model.specs.Laws.{event, is_fault, is_skip, FibIsRibWithoutFaults}
use Rattle.table_model.specs.Legal.{IsLawful}
use Rattle.table_model.specs.Reply.{reply_to, reply_params, params_reply, params_beside, reply_announce, reply_operate, operate_reply, is_halted, is_gone, may_flush}
use Rattle.table_model.specs.Rib.{rib, verdict}
use Rattle.table_model.specs.Sessions.{params_of, supported, differing}
use Rattle.table_model.specs.Table.{lookup, has, resolves, used, in_order}
use Rattle.table_model.proofs.Closed.{or_left, or_right, not_used}
use Rattle.table_model.proofs.Effects.{left_by, effect_here, effect_there}
use Rattle.table_model.proofs.TableLemmas.{in_order_empty}
use Rattle.table_model.proofs.Tests.{and_left, and_right, and_both}
use Rattle.table_laws.proofs.Ascending.{number, ascend}
use Rattle.table_laws.proofs.Deep.{found_in}
use Rattle.table_laws.proofs.InTurn.{Waits, in_turn}
use Rattle.table_laws.proofs.MadeAll.{all_made}
use Rattle.table_laws.proofs.MadeWell.{Made, AllMade, none_in}
use Rattle.table_laws.proofs.Members.{passes_in, lookup_in}
use Rattle.table_laws.proofs.Refused.{not_not}
use Rattle.table_laws.proofs.Reports.{programs, done_fold, done_append, fib_is, in_order_programs, undone_not_programmed}
use Rattle.table_laws.proofs.Updates.{Each, Pairs, each_both, Before, ascending_pairs, tracked_at, Taken, taken_is}
use Rattle.table_laws.proofs.Whole.{works, or_true, or_right_true, same_tables}

-- Lists of jobs, cut at one.

each_parts : (P : Task → Type 0) (front back : List Task) (t : Task) → Each P (front ++ t ∷ back) → Each P front × P t × Each P back
each_parts P [] back t h = (tt, h.0, h.1)
each_parts P (x ∷ front) back t h = let rest = each_parts P front back t h.1 in ((h.0, rest.0), rest.1, rest.2)

pairs_parts : (R : Task → Task → Type 0) (front back : List Task) (t : Task) → Pairs R (front ++ t ∷ back) → Each (λ x. R x t) front × Each (R t) back
pairs_parts R [] back t h = (tt, h.0)
pairs_parts R (x ∷ front) back t h =
    let here = each_parts (R x) front back t h.0 in
    let rest = pairs_parts R front back t h.1 in
    ((here.1, rest.0), rest.1)

made_parts : (table : List Entry) (front back : List Task) (t : Task) → AllMade table (front ++ t ∷ back) → AllMade table front × Made (works table front) t
made_parts table [] back t h = (tt, h.0)
made_parts table (x ∷ front) back t h = let rest = made_parts (effect table x.job.work) front back t h.1 in ((h.0, rest.0), rest.1)

-- Conflicts.

touched_second : (a b : Task) → is_among (work_key a.job.work) (touches b) ≡ true → conflict a b ≡ true
unfolding conflict
touched_second a b h =
    or_true (key_eq (work_key a.job.work) (work_key b.job.work) || is_among (work_key a.job.work) (touches b)) (is_among (work_key b.job.work) (touches a))
    (or_right_true (key_eq (work_key a.job.work) (work_key b.job.work)) (is_among (work_key a.job.work) (touches b)) h)

touched_first : (a b : Task) → is_among (work_key b.job.work) (touches a) ≡ true → conflict a b ≡ true
unfolding conflict
touched_first a b h = or_right_true (key_eq (work_key a.job.work) (work_key b.job.work) || is_among (work_key a.job.work) (touches b)) (is_among (work_key b.job.work) (touches a)) h

by_refs : (key : Key) (t : Task) → is_among key (work_refs t.job.work) ≡ true → is_among key (touches t) ≡ true
by_refs key t h = list_any-append (key_eq key) (work_refs t.job.work) t.before ∙ or_true (is_among key (work_refs t.job.work)) (is_among key t.before) h

by_before : (key : Key) (t : Task) → is_among key t.before ≡ true → is_among key (touches t) ≡ true
by_before key t h = list_any-append (key_eq key) (work_refs t.job.work) t.before ∙ or_right_true (is_among key (work_refs t.job.work)) (is_among key t.before) h

all_keys : (p q : Key → Bool) (keys : List Key) → ((k : Key) → is_among k keys ≡ true → p k ≡ true → q k ≡ true) → list_all p keys ≡ true → list_all q keys ≡ true
all_keys p q [] step h = refl
all_keys p q (k ∷ keys) step h =
    and_both (q k) (list_all q keys) (step k (or_true (key_eq k k) (is_among k keys) (key_eq_refl k)) (and_left (p k) (list_all p keys) h))
    (all_keys p q keys (λ j there. step j (or_right_true (key_eq j k) (is_among j keys) there)) (and_right (p k) (list_all p keys) h))

module _ (f : JobNumber → Outcome) where
  abbrev is_done : Task → Bool
  is_done x = is_programmed (f (number x))

  sorted_done : (table : List Entry) (ts : List Task) → in_order table ≡ true → in_order (done_fold f table ts) ≡ true
  sorted_done table [] h = h
  sorted_done table (t ∷ ts) h = sorted_done (programs f table t) ts (in_order_programs f table t h)

  -- At a key whose jobs are all programmed.
  at_key : (key : Key) (have want : List Entry) (ts : List Task) → lookup key have ≡ lookup key want → Each (λ x. key_eq key (work_key x.job.work) ≡ true → is_done x ≡ true) ts
      → lookup key (done_fold f have ts) ≡ lookup key (works want ts)
  at_key key have want [] same h = same
  at_key key have want (x ∷ ts) same h = at_key key (programs f have x) (effect want x.job.work) ts (by_key (key_eq key (work_key x.job.work)) refl) h.1
    where
      by_done : (b : Bool) → key_eq key (work_key x.job.work) ≡ false → lookup key (cond b (effect have x.job.work) have) ≡ lookup key have
      by_done true far = effect_there key have x.job.work far
      by_done false far = refl

      by_key : (b : Bool) → key_eq key (work_key x.job.work) ≡ b → lookup key (programs f have x) ≡ lookup key (effect want x.job.work)
      by_key true here =
          ap (λ b. lookup key (cond b (effect have x.job.work) have)) (h.0 here)
          ∙ ap (λ k. lookup k (effect have x.job.work)) (key_eq_same key (work_key x.job.work) here) ∙ effect_here have x.job.work
          ∙ sym (ap (λ k. lookup k (effect want x.job.work)) (key_eq_same key (work_key x.job.work) here) ∙ effect_here want x.job.work)
      by_key false far = by_done (is_done x) far ∙ same ∙ sym (effect_there key want x.job.work far)

  -- At a key none of whose jobs is.
  beside_key : (key : Key) (table : List Entry) (ts : List Task) → Each (λ x. key_eq key (work_key x.job.work) ≡ true → is_done x ≡ false) ts → lookup key (done_fold f table ts) ≡ lookup key table
  beside_key key table [] h = refl
  beside_key key table (x ∷ ts) h = beside_key key (programs f table x) ts h.1 ∙ by_key (key_eq key (work_key x.job.work)) refl
    where
      by_done : (b : Bool) → key_eq key (work_key x.job.work) ≡ false → lookup key (cond b (effect table x.job.work) table) ≡ lookup key table
      by_done true far = effect_there key table x.job.work far
      by_done false far = refl

      by_key : (b : Bool) → key_eq key (work_key x.job.work) ≡ b → lookup key (programs f table x) ≡ lookup key table
      by_key true here = ap (λ b. lookup key (cond b (effect table x.job.work) table)) (h.0 here)
      by_key false far = by_done (is_done x) far

  module _ (t : Task) where
    -- of a job before it, and of one behind it
    abbrev DoneBefore : Task → Type 0
    DoneBefore x = conflict x t ≡ true → is_done x ≡ true

    abbrev NotYet : Task → Type 0
    NotYet x = conflict t x ≡ true → is_done x ≡ false

    -- What refers to its key is what all jobs before it leave.
    abbrev Known : List Entry → List Entry → Type 0
    Known have want = (key : Key) (y : Entry) → lookup key have ≡ Some y → refers y (work_key t.job.work) ≡ true → lookup key want ≡ Some y

    known_step : (have want : List Entry) (x : Task) → Known have want → Made want x → DoneBefore x → (b : Bool) → is_done x ≡ b → Known (cond b (effect have x.job.work) have) (effect want x.job.work)
    known_step have want x known made before b done key y found ref = by_key (key_eq key (work_key x.job.work)) refl b done found
      where
        by_key : (c : Bool) → key_eq key (work_key x.job.work) ≡ c → (b : Bool) → is_done x ≡ b → lookup key (cond b (effect have x.job.work) have) ≡ Some y → lookup key (effect want x.job.work) ≡ Some y
        by_key true here true done found =
            let one = key_eq_same key (work_key x.job.work) here in
            ap (λ k. lookup k (effect want x.job.work)) one ∙ effect_here want x.job.work ∙ sym (ap (λ k. lookup k (effect have x.job.work)) one ∙ effect_here have x.job.work) ∙ found
        by_key false far true done found = effect_there key want x.job.work far ∙ known key y (sym (effect_there key have x.job.work far) ∙ found) ref
        by_key true here false done found =
            let old : lookup (work_key x.job.work) want ≡ Some y = ap (λ k. lookup k want) (sym (key_eq_same key (work_key x.job.work) here)) ∙ known key y found ref in
            let left : is_among (work_key t.job.work) x.before ≡ true = ap (is_among (work_key t.job.work)) (made.1 ∙ ap refs_before old) ∙ ref in
            let no_way : false ≡ true = sym done ∙ before (touched_first x t (by_before (work_key t.job.work) x left)) in
            cc
        by_key false far false done found = effect_there key want x.job.work far ∙ known key y found ref

    known_all : (have want : List Entry) (ts : List Task) → Known have want → AllMade want ts → Each DoneBefore ts → Known (done_fold f have ts) (works want ts)
    known_all have want [] known made before = known
    known_all have want (x ∷ ts) known made before = known_all (programs f have x) (effect want x.job.work) ts (known_step have want x known made.0 before.0 (is_done x) refl) made.1 before.1

    -- Nothing refers to its key.
    abbrev Free : List Entry → Type 0
    Free table = (key : Key) (y : Entry) → lookup key table ≡ Some y → refers y (work_key t.job.work) ≡ false

    left_free : (x : Task) → NotYet x → is_done x ≡ true → (w : Work) → x.job.work ≡ w → (y : Entry) → left_by w ≡ Some y → refers y (work_key t.job.work) ≡ false
    left_free x later done (Install entry) is y found = by_ref (refers y (work_key t.job.work)) refl
      where
        by_ref : (b : Bool) → refers y (work_key t.job.work) ≡ b → b ≡ false
        by_ref false ref = refl
        by_ref true ref =
            let one : entry ≡ y = cc in
            let refs : work_refs x.job.work ≡ refs_of y = ap work_refs is ∙ ap refs_of one in
            let no_way : false ≡ true = sym (later (touched_second t x (by_refs (work_key t.job.work) x (ap (is_among (work_key t.job.work)) refs ∙ ref)))) ∙ done in
            cc
    left_free x later done (Remove gone) is y found = cc

    free_step : (table : List Entry) (x : Task) → Free table → NotYet x → (b : Bool) → is_done x ≡ b → Free (cond b (effect table x.job.work) table)
    free_step table x free later false done key y found = free key y found
    free_step table x free later true done key y found = by_key (key_eq key (work_key x.job.work)) refl
      where
        by_key : (c : Bool) → key_eq key (work_key x.job.work) ≡ c → refers y (work_key t.job.work) ≡ false
        by_key true here = left_free x later done x.job.work refl y (sym (ap (λ k. lookup k (effect table x.job.work)) (key_eq_same key (work_key x.job.work) here) ∙ effect_here table x.job.work) ∙ found)
        by_key false far = free key y (sym (effect_there key table x.job.work far) ∙ found)

    free_all : (table : List Entry) (ts : List Task) → Free table → Each NotYet ts → Free (done_fold f table ts)
    free_all table [] free later = free
    free_all table (x ∷ ts) free later = free_all (programs f table x) ts (free_step table x free later.0 (is_done x) refl) later.1

    -- It can be done.
    module _ (front back : List Task) (made : AllMade [] (front ++ t ∷ back)) (waits : is_done t ≡ false) (before : Each DoneBefore front) (later : Each NotYet back) where
      abbrev here : List Entry
      here = done_fold f [] front

      parts : AllMade [] front × Made (works [] front) t
      parts = made_parts [] front back t made

      table_is : done_fold f [] (front ++ t ∷ back) ≡ done_fold f here back
      table_is = done_append f [] front (t ∷ back) ∙ ap (λ b. done_fold f (cond b (effect here t.job.work) here) back) waits

      has_ref : (key : Key) → is_among key (work_refs t.job.work) ≡ true → has (works [] front) key ≡ true → has (done_fold f here back) key ≡ true
      has_ref key among there =
          ap is_some (beside_key key here back (each_both (λ x. NotYet x) (λ x. NotYet x) (λ x. key_eq key (work_key x.job.work) ≡ true → is_done x ≡ false) back (λ x n m same. n (touched_first t x (named x same))) later later)
          ∙ at_key key [] [] front refl (each_both (λ x. DoneBefore x) (λ x. DoneBefore x) (λ x. key_eq key (work_key x.job.work) ≡ true → is_done x ≡ true) front (λ x d c same. d (touched_second x t (named x same))) before before))
          ∙ there
        where
          named : (x : Task) → key_eq key (work_key x.job.work) ≡ true → is_among (work_key x.job.work) (touches t) ≡ true
          named x same = ap (λ k. is_among k (touches t)) (sym (key_eq_same key (work_key x.job.work) same)) ∙ by_refs key t among

      none_known : Known [] []
      none_known key y found ref = found

      free_here : used (works [] front) (work_key t.job.work) ≡ false → Free here
      unfolding used lookup
      free_here unused key y found = by_ref (refers y (work_key t.job.work)) refl
        where
          by_ref : (b : Bool) → refers y (work_key t.job.work) ≡ b → b ≡ false
          by_ref false ref = refl
          by_ref true ref =
              let was = known_all [] [] front none_known parts.0 before key y found ref in
              let not_it = passes_in (λ e. not (refers e (work_key t.job.work))) y (works [] front) (not_used (work_key t.job.work) (works [] front) unused) (found_in (λ e. key_eq key e.key) y (works [] front) was) in
              let no_way : false ≡ true = ap not (sym ref) ∙ not_it in
              cc

      still_unused : used (works [] front) (work_key t.job.work) ≡ false → used (done_fold f here back) (work_key t.job.work) ≡ false
      unfolding used
      still_unused unused =
          none_in (λ e. refers e (work_key t.job.work)) (done_fold f here back)
          (λ y there. free_all here back (free_here unused) later y.key y (lookup_in y (done_fold f here back) (sorted_done here back (sorted_done [] front in_order_empty)) there))

      fits_by : (w : Work) → t.job.work ≡ w → is_skipped (done_fold f here back) w ≡ false
      unfolding resolves
      fits_by (Install entry) is =
          ap not (all_keys (has (works [] front)) (has (done_fold f here back)) (refs_of entry)
          (λ key among there. has_ref key (ap (λ w. is_among key (work_refs w)) is ∙ among) there)
          (not_not (list_all (has (works [] front)) (refs_of entry)) (ap (is_skipped (works [] front)) (sym is) ∙ parts.1.0)))
      fits_by (Remove key) is =
          let at : work_key t.job.work ≡ key = ap work_key is in
          ap (used (done_fold f here back)) (sym at) ∙ still_unused (ap (used (works [] front)) at ∙ ap (is_skipped (works [] front)) (sym is) ∙ parts.1.0)

      fits : is_skipped (done_fold f [] (front ++ t ∷ back)) t.job.work ≡ false
      fits = ap (λ table. is_skipped table t.job.work) table_is ∙ fits_by t.job.work refl

-- No job has failed.

abbrev NoneFailed : List Event → Type 0
NoneFailed past = (n : JobNumber) → is_undone (outcome_of past n) ≡ false → is_programmed (outcome_of past n) ≡ true

waits_undone : (o : Outcome) → is_waiting o ≡ true → is_undone o ≡ true
waits_undone o h = ap (λ b. b || is_out o) h

before_by : (u l c d : Bool) → u && l && c ≡ false → l ≡ true → (u ≡ false → d ≡ true) → c ≡ true → d ≡ true
before_by true true true d h lt go meets = cc
before_by true true false d h lt go meets = cc
before_by true false c d h lt go meets = cc
before_by false l c d h lt go meets = go refl

later_by : (past : List Event) (t x : Task) → is_waiting (outcome_of past (number t)) ≡ true → Waits past t x → conflict t x ≡ true → is_programmed (outcome_of past (number x)) ≡ false
later_by past t x waits updates meets = by_wait (is_waiting (outcome_of past (number x))) refl
  where
    by_wait : (b : Bool) → is_waiting (outcome_of past (number x)) ≡ b → is_programmed (outcome_of past (number x)) ≡ false
    by_wait true is = undone_not_programmed (outcome_of past (number x)) (waits_undone (outcome_of past (number x)) is)
    by_wait false is = let no_way : true ≡ false = sym (waits_undone (outcome_of past (number t)) waits) ∙ updates meets is in cc

module _ (config : Config) (past : List Event) (lawful : IsLawful config past) (fine : NoneFailed past) where
  taken_fits : (turn : JobUpdate) (taken : Taken past turn) → is_skipped (fib past) taken.task.job.work ≡ false
  taken_fits turn taken =
      let waits : is_waiting (outcome_of past (number taken.task)) ≡ true = ap (λ n. is_waiting (outcome_of past n)) (sym taken.of_it) ∙ taken.waited in
      let pairs = pairs_parts Before taken.front taken.back taken.task (subst (Pairs Before) taken.parts (ascending_pairs (tasks past) (ascend past))) in
      let updates = pairs_parts (Waits past) taken.front taken.back taken.task (subst (Pairs (Waits past)) taken.parts (in_turn config past lawful)) in
      let free = each_parts (λ other. is_undone (outcome_of past (number other)) && number_lt (number other) (number taken.task) && conflict other taken.task ≡ false) taken.front taken.back taken.task
      (subst (Each (λ other. is_undone (outcome_of past (number other)) && number_lt (number other) (number taken.task) && conflict other taken.task ≡ false)) taken.parts taken.free) in
      ap (λ table. is_skipped table taken.task.job.work) (fib_is past ∙ ap (done_fold (outcome_of past) []) taken.parts)
      ∙ fits (outcome_of past) taken.task taken.front taken.back (subst (AllMade []) taken.parts (all_made config past lawful))
      (undone_not_programmed (outcome_of past (number taken.task)) (waits_undone (outcome_of past (number taken.task)) waits))
      (each_both (λ x. Before x taken.task) (λ x. is_undone (outcome_of past (number x)) && number_lt (number x) (number taken.task) && conflict x taken.task ≡ false) (λ x. DoneBefore (outcome_of past) taken.task x) taken.front
      (λ x lt unblocked. before_by (is_undone (outcome_of past (number x))) (number_lt (number x) (number taken.task)) (conflict x taken.task) (is_programmed (outcome_of past (number x))) unblocked lt (fine (number x))) pairs.0 free.0)
      (each_both (Waits past taken.task) (Waits past taken.task) (λ x. NotYet (outcome_of past) taken.task x) taken.back (λ x w v. later_by past taken.task x waits w) updates.1 updates.1)

  -- Only a Take is answered Skipped.
  through : (a b : Bool) (r : Reply) → is_skip r ≡ false → is_skip (cond a reply.Stopped (cond b reply.Gone r)) ≡ false
  through true b r h = refl
  through false true r h = refl
  through false false r h = h

  by_beside : (o : Option Params) → is_skip (params_beside o) ≡ false
  by_beside None = refl
  by_beside (Some other) = refl

  by_params : (session : ℕ) (o : Option Params) → is_skip (params_reply past session o) ≡ false
  by_params session None = refl
  by_params session (Some params) = by_had (is_some (params_of past session))
    where
      by_had : (b : Bool) → is_skip (cond b reply.ParamsNotAllowed (params_beside (differing past session params))) ≡ false
      by_had true = refl
      by_had false = by_beside (differing past session params)

  two_tests : (a b : Bool) (p q r : Reply) → is_skip p ≡ false → is_skip q ≡ false → is_skip r ≡ false → is_skip (cond a p (cond b q r)) ≡ false
  two_tests true b p q r h k l = h
  two_tests false true p q r h k l = k
  two_tests false false p q r h k l = l

  one_test : (a : Bool) (p q : Reply) → is_skip p ≡ false → is_skip q ≡ false → is_skip (cond a p q) ≡ false
  one_test true p q h k = h
  one_test false p q h k = k

  by_reason : (o : Option Reason) → is_skip (operate_reply o) ≡ false
  by_reason None = refl
  by_reason (Some reason) = refl

  take_skip : (worker : ℕ) (now : ℤ) (r : Reply) → r ≡ reply_to config past (Take worker now) → is_skip r ≡ false
  take_skip worker now (reply.Skipped n) told =
      let taken = taken_is config past worker now (reply.Skipped n) told (record { number = n; outcome = PassedOver; now = now }) refl in
      let no_way : false ≡ true = sym (taken_fits (record { number = n; outcome = PassedOver; now = now }) taken) ∙ taken.told in
      cc
  take_skip worker now _ told = refl

  not_skipped : (command : Command) (r : Reply) → r ≡ reply_to config past command → is_skip r ≡ false
  unfolding reply_to reply_params reply_announce reply_operate
  not_skipped (Take worker now) r told = take_skip worker now r told
  not_skipped Begin r told = ap is_skip told ∙ through (is_halted past) false _ refl
  not_skipped (SetParams session asked) r told = ap is_skip told ∙ through (is_halted past) (is_gone past (SetParams session asked)) (params_reply past session (supported asked)) (by_params session (supported asked))
  not_skipped (Announce session id) r told = ap is_skip told ∙ through (is_halted past) (is_gone past (Announce session id)) _ (two_tests (not (is_some (params_of past session))) (id == 0) reply.NoParams reply.ZeroId (reply.Announced (max id (highest past))) refl refl refl)
  not_skipped (Operate session operation now) r told = ap is_skip told ∙ through (is_halted past) (is_gone past (Operate session operation now)) _ (one_test _ reply.NoParams (operate_reply (verdict config past session operation)) refl (by_reason (verdict config past session operation)))
  not_skipped (Collect session) r told = ap is_skip told ∙ through (is_halted past) (is_gone past (Collect session)) _ refl
  not_skipped (Leave session) r told = ap is_skip told ∙ through false (is_gone past (Leave session)) _ refl
  not_skipped (Flush by which now) r told = ap is_skip told ∙ through (is_halted past) false _ (one_test (may_flush past by) _ _ refl refl)
  not_skipped (Select which kinds) r told = ap is_skip told ∙ through (is_halted past) false _ refl
  not_skipped (Report n said now) r told = ap is_skip told ∙ one_test (is_out (outcome_of past n)) reply.Reported reply.NotOut refl refl
  not_skipped Halt r told = ap is_skip told

-- what an event makes of a job, where no device fails and nothing is skipped
update_by_take_fine : (now : ℤ) (r : Reply) → is_skip r ≡ false → (turn : JobUpdate) → update_by_take now r ≡ Some turn → is_undone turn.outcome ≡ false → is_programmed turn.outcome ≡ true
update_by_take_fine now (reply.Given job) fine turn is done = let one : record { number = job.number; outcome = Out; now = now } ≡ turn = cc in let no_way : true ≡ false = ap (λ (x : JobUpdate). is_undone x.outcome) one ∙ done in cc
update_by_take_fine now (reply.Skipped n) fine turn is done = cc
update_by_take_fine now _ fine turn is done = cc

update_said_fine : (n : JobNumber) (now : ℤ) (b : Bool) (turn : JobUpdate) → cond b (Some (record { number = n; outcome = Programmed; now = now })) None ≡ Some turn → is_programmed turn.outcome ≡ true
update_said_fine n now true turn is = let one : record { number = n; outcome = Programmed; now = now } ≡ turn = cc in ap (λ (x : JobUpdate). is_programmed x.outcome) (sym one)
update_said_fine n now false turn is = cc

update_fine : (command : Command) (r : Reply) → is_fault command ≡ false → is_skip r ≡ false → (turn : JobUpdate) → update_of (event command r) ≡ Some turn → is_undone turn.outcome ≡ false → is_programmed turn.outcome ≡ true
update_fine (Take worker now) r sound fine turn is done = update_by_take_fine now r fine turn is done
update_fine (Report n verdict.Programmed now) r sound fine turn is done = update_said_fine n now (is_reported r) turn is
update_fine (Report n verdict.DeviceFault now) r sound fine turn is done = cc
update_fine Begin r sound fine turn is done = cc
update_fine (SetParams x0 x1) r sound fine turn is done = cc
update_fine (Announce x0 x1) r sound fine turn is done = cc
update_fine (Operate x0 x1 x2) r sound fine turn is done = cc
update_fine (Collect x0) r sound fine turn is done = cc
update_fine (Leave x0) r sound fine turn is done = cc
update_fine (Flush x0 x1 x2) r sound fine turn is done = cc
update_fine (Select x0 x1) r sound fine turn is done = cc
update_fine Halt r sound fine turn is done = cc

turned_fine : (o : Option JobUpdate) (n : JobNumber) (before : Outcome) → ((turn : JobUpdate) → o ≡ Some turn → is_undone turn.outcome ≡ false → is_programmed turn.outcome ≡ true) → (is_undone before ≡ false → is_programmed before ≡ true)
    → is_undone (turned o n before) ≡ false → is_programmed (turned o n before) ≡ true
turned_fine None n before turn old = old
turned_fine (Some turn) n before now old = by_number (number_eq turn.number n)
  where
    by_number : (b : Bool) → is_undone (cond b turn.outcome before) ≡ false → is_programmed (cond b turn.outcome before) ≡ true
    by_number true = now turn refl
    by_number false = old

none_failed : (past : List Event) → list_any (λ e. is_fault e.command) past ≡ false → list_any (λ e. is_skip e.reply) past ≡ false → NoneFailed past
unfolding outcome_of
none_failed [] sound fine n done = cc
none_failed (e ∷ past) sound fine n done =
    turned_fine (update_of e) n (outcome_of past n)
    (update_fine e.command e.reply (or_left (is_fault e.command) (list_any (λ x. is_fault x.command) past) sound) (or_left (is_skip e.reply) (list_any (λ x. is_skip x.reply) past) fine))
    (none_failed past (or_right (is_fault e.command) (list_any (λ x. is_fault x.command) past) sound) (or_right (is_skip e.reply) (list_any (λ x. is_skip x.reply) past) fine) n) done

none_skipped : (config : Config) (past : List Event) → IsLawful config past → list_any (λ e. is_fault e.command) past ≡ false → list_any (λ e. is_skip e.reply) past ≡ false
none_skipped config [] lawful sound = refl
none_skipped config (e ∷ past) lawful sound =
    let sound_before = or_right (is_fault e.command) (list_any (λ x. is_fault x.command) past) sound in
    let before = none_skipped config past lawful.1 sound_before in
    ap (λ b. b || list_any (λ x. is_skip x.reply) past) (not_skipped config past lawful.1 (none_failed past sound_before before) e.command e.reply lawful.0) ∙ before

all_programmed : (past : List Event) → NoneFailed past → (ts : List Task) → list_any (λ tracked. is_undone tracked.outcome) (map (tracked_at past) ts) ≡ false → list_all (λ tracked. is_programmed tracked.outcome) (map (tracked_at past) ts) ≡ true
all_programmed past fine [] h = refl
all_programmed past fine (t ∷ ts) h =
    and_both (is_programmed (outcome_of past (number t))) (list_all (λ tracked. is_programmed tracked.outcome) (map (tracked_at past) ts))
    (fine (number t) (or_left (is_undone (outcome_of past (number t))) (list_any (λ tracked. is_undone tracked.outcome) (map (tracked_at past) ts)) h))
    (all_programmed past fine ts (or_right (is_undone (outcome_of past (number t))) (list_any (λ tracked. is_undone tracked.outcome) (map (tracked_at past) ts)) h))

same_where_done : (past : List Event) → NoneFailed past → list_any (λ tracked. is_undone tracked.outcome) (tracked_tasks past) ≡ false → fib past ≡ rib past
unfolding tracked_tasks
same_where_done past fine h = same_tables past (all_programmed past fine (tasks past) h)

pub faultless : (config : Config) → FibIsRibWithoutFaults config
faultless config past lawful sound =
    let fine = none_skipped config past lawful sound in
    (fine, same_where_done past (none_failed past sound fine))
