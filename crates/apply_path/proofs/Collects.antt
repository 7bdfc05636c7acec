-- The session collects until nothing is outstanding.
use Rattle.std.proofs.Common.{◌≡◌, ℕ, pos, ◌-◌, ◌<◌, Bool, true, false, cond, List, [], ◌∷◌, ◌++◌, length, drop, Some, None, refl, sym, ap, subst, ◌∙◌, append_assoc, arith}
use Rattle.std.specs.Prelude.{◌==◌}
use Rattle.std.specs.List.{flat_map}
use Rattle.std.proofs.lemmas.Bool.Decides.{nat_tests}
use Rattle.std.proofs.lemmas.List.{append-nil, length-drop}
use Rattle.std.proofs.lemmas.List.Concat.{flat_map-append, flat_map-cons}
use Rattle.schema_numbers.specs.Numbers.{Numbers}
use Rattle.table_model.specs.declared.command.Command.TheVariants.{Collect}
use Rattle.table_model.specs.declared.command.Config.{Config}
use Rattle.table_model.specs.declared.reply.Reply.{Reply}
use Rattle.table_model.specs.declared.reply.Reply.TheVariants as reply
use Rattle.table_model.specs.BoardState.{due_for, due_of}
use Rattle.table_model.specs.Event.{Event}
use Rattle.table_model.specs.Laws.{OutstandingIsOwed}
use Rattle.table_model.specs.Reply.{reply_to}
use Rattle.table_model.specs.Results.{batch, outstanding, owed, results, taken}
use Rattle.rib_core.specs.Core.{Core}
use Rattle.rib_core.specs.Stands.{Keeps}
use Rattle.inline_worker.specs.CoreAt.{CoreAt}
use Rattle.inline_worker.specs.Turns.{behind, collect_events, next_event, outstanding_in}
use Rattle.inline_worker.proofs.Collecting.{IsCollecting, awaits_none, collect_is, goes_on_collecting, one_collect, fewer_behind}
use Rattle.inline_worker.proofs.Working.{behind_both}
use Rattle.message_run.specs.declared.message_handler.Handled.TheVariants.{Continue, Ends, NoMemory}
use Rattle.apply_path.specs.History.{answer_bytes, response_item, status_code_by}
use Rattle.apply_path.specs.SessionAt.{AnswersReply, Collects, CollectsAll, Replied}
use Rattle.apply_path.proofs.Steps.{stood_more}

pub collecting : (config : Config) (past : List Event) → Collects config past → IsCollecting config past
collecting config past c = record { lawful = c.takes.rest.lawful; runs = c.takes.runs; is_there = c.takes.is_there; done = c.done }

-- what a core keeps for the session is what is owed to it
due_there : (past : List Event) (b : Bool) → b ≡ true → length (cond b (drop (taken past 0) (results past 0)) []) ≡ length (results past 0) - taken past 0
due_there past true h = length-drop (taken past 0) (results past 0)
due_there past false h = absurd cc

pub due_owed : (config : Config) (core : Core) (past : List Event) → CoreAt config core past → IsCollecting config past → length (due_for core.board.due 0) ≡ owed past 0
unfolding owed due_of
due_owed config core past stood now =
    let keeps : Keeps core past = subst (Keeps core) stood.all stood.stands.keeps in
    let none = awaits_none past now.done in
    let due = due_there past _ now.is_there in
    ap (λ l. length l) (keeps.board.due 0) ∙ due ∙ omega (arith, none)

-- the Collects so far
pub record CollectsSoFar (n : Numbers) (config : Config) (past : List Event) (core : Core) (before out : List ℕ) : Type 0 where
  pub done : List Event
  pub now : List Event
  pub stood : CoreAt config core now
  pub collecting : IsCollecting config now
  pub now_is : behind past done ≡ now
  pub leads : collect_events config past ≡ done ++ collect_events config now
  pub appended : out ≡ before ++ flat_map (answer_bytes n) done

pub collects_first : (n : Numbers) (config : Config) (past : List Event) (core : Core) (before : List ℕ) → CoreAt config core past → Collects config past → CollectsSoFar n config past core before before
collects_first n config past core before stood c = record {
  done = [];
  now = past;
  stood = stood;
  collecting = collecting config past c;
  now_is = refl;
  leads = refl;
  appended = sym (append-nil before);
}

-- a Collect ends no stream
ends_not : (config : Config) (past : List Event) (given : Reply) (code : ℕ) → IsCollecting config past → given ≡ reply_to config past (Collect 0) → status_code_by false given ≡ Some code → ⊥
ends_not config past given code now is ends =
    let collected : given ≡ reply.Collected (batch past 0) (outstanding past 0) = is ∙ collect_is config past now.runs now.is_there in
    let none : status_code_by false given ≡ None = ap (status_code_by false) collected in
    let bad : None ≡ Some code = sym none ∙ ends in absurd cc

module _ (n : Numbers) (config : Config) (law : OutstandingIsOwed config) (past : List Event) (old new : Core) (before out after : List ℕ) (given : Reply)
    (h : CollectsSoFar n config past old before out) (r : Replied old (Collect 0) given new) where
  abbrev e : Event
  e = next_event config h.now (Collect 0)

  -- it was answered
  module _ (told : AnswersReply n false 0 (pos 0) given Continue out after) where
    more : CoreAt config new (e ∷ h.now) × (given ≡ reply_to config h.now (Collect 0))
    more = stood_more config old new h.now (Collect 0) given h.stood r.config told.0 (r.acts told.0)

    appended_then : after ≡ before ++ flat_map (answer_bytes n) (h.done ++ e ∷ [])
    appended_then =
        let item : response_item n 0 (pos 0) given ≡ answer_bytes n e = ap (response_item n 0 (pos 0)) more.1 in
        let one : flat_map (answer_bytes n) (e ∷ []) ≡ answer_bytes n e = flat_map-cons (answer_bytes n) e [] ∙ append-nil (answer_bytes n e) in
        told.2 ∙ ap (λ (x : List ℕ). x ++ response_item n 0 (pos 0) given) h.appended ∙ ap (λ (x : List ℕ). (before ++ flat_map (answer_bytes n) h.done) ++ x) (item ∙ sym one)
        ∙ append_assoc before (flat_map (answer_bytes n) h.done) (flat_map (answer_bytes n) (e ∷ []))
        ∙ ap (λ (x : List ℕ). before ++ x) (sym (flat_map-append (answer_bytes n) h.done (e ∷ [])))

    left_is : outstanding_in given ≡ outstanding_in e.reply
    left_is = ap outstanding_in more.1

    now_then : behind past (h.done ++ e ∷ []) ≡ e ∷ h.now
    now_then = behind_both past h.done (e ∷ []) ∙ ap (λ (l : List Event). e ∷ l) h.now_is

    -- some are left
    module _ (left : ℕ) (is : left ≡ outstanding_in given) (some : (left ≡ 0) → ⊥) where
      some_left : (outstanding_in e.reply == 0) ≡ false
      some_left = by_test (outstanding_in e.reply == 0) refl
        where
          by_test : (b : Bool) → (outstanding_in e.reply == 0) ≡ b → b ≡ false
          by_test true none = absurd (some (omega (arith, is, left_is, zero_of (outstanding_in e.reply) none)))
            where
              zero_of : (k : ℕ) → (k == 0) ≡ true → k ≡ 0
              zero_of k h = grind (arith, nat_tests)
          by_test false none = refl

      pub collects_more : CollectsSoFar n config past new before after
      collects_more = record {
        done = h.done ++ e ∷ [];
        now = e ∷ h.now;
        stood = more.0;
        collecting = goes_on_collecting config law h.now h.collecting;
        now_is = now_then;
        leads = h.leads ∙ ap (λ (l : List Event). h.done ++ l) (one_collect config law h.now h.collecting ∙ ap (λ (b : Bool). e ∷ cond b [] (collect_events config (e ∷ h.now))) some_left)
            ∙ sym (append_assoc h.done (e ∷ []) (collect_events config (e ∷ h.now)));
        appended = appended_then;
      }

      pub fewer_due : length (due_for new.board.due 0) < length (due_for old.board.due 0)
      fewer_due =
          let a = due_owed config old h.now h.stood h.collecting in
          let b = due_owed config new (e ∷ h.now) more.0 (goes_on_collecting config law h.now h.collecting) in
          let c = fewer_behind config law h.now h.collecting (λ z. some (is ∙ left_is ∙ z)) in
          omega (arith, a, b, c)

    -- none is
    pub collects_all : outstanding_in given ≡ 0 → CollectsAll n config past new Continue before after
    collects_all none =
        let last : collect_events config past ≡ h.done ++ e ∷ []
        = h.leads ∙ ap (λ (l : List Event). h.done ++ l) (one_collect config law h.now h.collecting ∙ ap (λ (k : ℕ). e ∷ cond (k == 0) [] (collect_events config (e ∷ h.now))) (sym left_is ∙ none)) in (
          subst (λ (l : List Event). CoreAt config new l) (sym (ap (behind past) last ∙ now_then)) more.0,
          appended_then ∙ ap (λ (l : List Event). before ++ flat_map (answer_bytes n) l) (sym last),
          r.few told.0,
        )

  pub collect_ends : (code : ℕ) → AnswersReply n false 0 (pos 0) given (Ends code) out after → ⊥
  collect_ends code told =
      let is = (stood_more config old new h.now (Collect 0) given h.stood r.config told.0 (r.acts told.0)).1 in
      ends_not config h.now given code h.collecting is told.1

  pub collects_part : AnswersReply n false 0 (pos 0) given NoMemory out after → CollectsAll n config past new NoMemory before after
  collects_part told = record {
    part = flat_map (answer_bytes n) h.done;
    others = flat_map (answer_bytes n) (collect_events config h.now);
    bytes_are = ap (flat_map (answer_bytes n)) h.leads ∙ flat_map-append (answer_bytes n) h.done (collect_events config h.now);
    appended = told ∙ h.appended;
  }
