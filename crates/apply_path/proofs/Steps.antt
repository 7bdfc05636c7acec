-- One command, and commands in a row.
use Rattle.std.proofs.Common.{inl, inr, ◌≡◌, ℕ, ◌≤◌, ◌^◌, Bool, true, false, cond, List, [], ◌∷◌, ◌++◌, Some, None, refl, sym, ap, subst, ◌∙◌, append_assoc}
use Rattle.std.proofs.lemmas.List.{append-nil}
use Rattle.std.proofs.lemmas.List.Concat.{flat_map-cons}
use Rattle.schema_numbers.specs.Numbers.{Numbers}
use Rattle.table_model.specs.declared.command.Command.{Command}
use Rattle.table_model.specs.declared.command.Command.TheVariants.{Begin, Leave}
use Rattle.table_model.specs.declared.command.Config.{Config}
use Rattle.table_model.specs.declared.reply.Reply.{Reply}
use Rattle.table_model.specs.declared.reply.Reply.TheVariants as reply
use Rattle.table_model.specs.Event.{Event, events, is_no_memory}
use Rattle.table_model.specs.Legal.{IsAnswer}
use Rattle.table_model.specs.Reply.{reply_to}
use Rattle.inline_worker.specs.CoreAt.{CoreAt}
use Rattle.inline_worker.specs.Turns.{behind}
use Rattle.rib_core.specs.Core.{Core}
use Rattle.rib_core.specs.Stands.{StandsFor, Acts}
use Rattle.message_run.specs.declared.message_handler.Handled.{Handled}
use Rattle.message_run.specs.declared.message_handler.Handled.TheVariants.{Continue, Ends, Unreadable, NoMemory}
use Rattle.table_model.specs.Reply.{is_gone, answer}
use Rattle.apply_path.specs.History.{event, answered, up_to_end, first_end, is_operate, id_of, moment_of, status_code_by, status_code_of, response_item, answer_bytes, CommandRun, run_of_events, run_commands}
use Rattle.apply_path.specs.SessionAt.{AnswersReply, Replied, RanOn, RunResult, RunsCommands, with_prefix}

-- ---- one event

answer_is : (config : Config) (past : List Event) (command : Command) (given : Reply) → is_no_memory given ≡ false → IsAnswer config past (record { command = command; reply = given }) → given ≡ reply_to config past command
answer_is config past command given has (inl e) = e
answer_is config past command given has (inr e) = let both : true ≡ false = sym (ap is_no_memory e.0) ∙ has in absurd cc

-- the reply is the server's
pub replied : (config : Config) (new : Core) (past : List Event) (command : Command) (given : Reply) → new.config ≡ config → events past ≡ past → is_no_memory given ≡ false
    → StandsFor new (record { command = command; reply = given } ∷ past) → given ≡ reply_to config past command
replied config new past command given same all has stands =
    let legal : IsAnswer new.config (events past) (record { command = command; reply = given }) = stands.legal.0 in
    answer_is config past command given has (subst (λ (c : Config). IsAnswer c past (record { command = command; reply = given })) same (subst (λ (p : List Event). IsAnswer new.config p (record { command = command; reply = given })) all legal))

events_more : (past : List Event) (e : Event) → events past ≡ past → is_no_memory e.reply ≡ false → events (e ∷ past) ≡ e ∷ past
unfolding events
events_more past e all has = ap (λ (b : Bool). cond b (events past) (e ∷ events past)) has ∙ ap (λ (p : List Event). e ∷ p) all

pub stood_more : (config : Config) (old new : Core) (past : List Event) (command : Command) (given : Reply) → CoreAt config old past → new.config ≡ old.config → is_no_memory given ≡ false
    → Acts old command given new → CoreAt config new (event config past command ∷ past) × (given ≡ reply_to config past command)
stood_more config old new past command given stood same has acts =
    let now = acts past stood.stands in
    let config_is = same ∙ stood.config_is in
    let is = replied config new past command given config_is stood.all has now in
    let e : record { command = command; reply = given } ≡ event config past command = ap (λ (r : Reply). record { command = command; reply = r }) is in (
      record {
        stands = subst (λ (x : Event). StandsFor new (x ∷ past)) e now;
        all = events_more past (event config past command) stood.all (ap is_no_memory (sym is) ∙ has);
        config_is = config_is;
      },
      is,
    )

-- ---- one command

goes_in : (n : Numbers) (past : List Event) (e : Event) (es : List Event) → status_code_of e ≡ None → run_of_events n past (e ∷ es) ≡ with_prefix (answer_bytes n e) (run_of_events n (e ∷ past) es)
unfolding up_to_end first_end
goes_in n past e es on = rw on (ap (λ (w : List ℕ). record { written = w; ending = first_end es; past = behind (e ∷ past) (up_to_end es) }) (flat_map-cons (answer_bytes n) e (up_to_end es)))

ends_in : (n : Numbers) (past : List Event) (e : Event) (es : List Event) (code : ℕ) → status_code_of e ≡ Some code → run_of_events n past (e ∷ es) ≡ record { written = answer_bytes n e; ending = Some code; past = e ∷ past }
unfolding up_to_end first_end
ends_in n past e es code on = rw on (ap (λ (w : List ℕ). record { written = w; ending = Some code; past = e ∷ past }) (flat_map-cons (answer_bytes n) e [] ∙ append-nil (answer_bytes n e)))

code_as : (config : Config) (past : List Event) (c : Command) (given : Reply) → given ≡ reply_to config past c → status_code_of (event config past c) ≡ status_code_by (is_operate c) given
code_as config past c given is = ap (status_code_by (is_operate c)) (sym is)

bytes_as : (n : Numbers) (config : Config) (past : List Event) (c : Command) (given : Reply) → given ≡ reply_to config past c → answer_bytes n (event config past c) ≡ response_item n (id_of c) (moment_of c) given
bytes_as n config past c given is = ap (response_item n (id_of c) (moment_of c)) (sym is)

pub run_goes_on : (n : Numbers) (config : Config) (past : List Event) (c : Command) (others : List Command) → status_code_of (event config past c) ≡ None
    → run_commands n config past (c ∷ others) ≡ with_prefix (answer_bytes n (event config past c)) (run_commands n config (event config past c ∷ past) others)
unfolding run_commands answered
run_goes_on n config past c others on = goes_in n past (event config past c) (answered config (event config past c ∷ past) others) on

pub run_ends : (n : Numbers) (config : Config) (past : List Event) (c : Command) (others : List Command) (code : ℕ) → status_code_of (event config past c) ≡ Some code
    → run_commands n config past (c ∷ others) ≡ record { written = answer_bytes n (event config past c); ending = Some code; past = event config past c ∷ past }
unfolding run_commands answered
run_ends n config past c others code on = ends_in n past (event config past c) (answered config (event config past c ∷ past) others) code on

pub does_one : (n : Numbers) (old new : Core) (c : Command) (given : Reply) (answer : Handled) (before after : List ℕ) → Replied old c given new
    → AnswersReply n (is_operate c) (id_of c) (moment_of c) given answer before after → RunsCommands n old new (c ∷ []) answer before after
does_one n old new c given Continue before after r told = λ config past stood.
    let more = stood_more config old new past c given stood r.config told.0 (r.acts told.0) in
    record {
      now = event config past c ∷ past;
      written = answer_bytes n (event config past c);
      stood = more.0;
      few = r.few told.0;
      goes = λ others. run_goes_on n config past c others (code_as config past c given more.1 ∙ told.1);
      appended = told.2 ∙ ap (λ (x : List ℕ). before ++ x) (sym (bytes_as n config past c given more.1));
    }
does_one n old new c given (Ends code) before after r told = λ config past stood.
    let more = stood_more config old new past c given stood r.config told.0 (r.acts told.0) in
    record {
      now = event config past c ∷ past;
      written = answer_bytes n (event config past c);
      stood = more.0;
      few = r.few told.0;
      ends = λ others. run_ends n config past c others code (code_as config past c given more.1 ∙ told.1);
      appended = told.2 ∙ ap (λ (x : List ℕ). before ++ x) (sym (bytes_as n config past c given more.1));
    }
does_one n old new c given (Unreadable place) before after r told = absurd told
does_one n old new c given NoMemory before after r told = λ config past stood. record { part = []; begins = λ others. ((run_commands n config past (c ∷ others)).written, refl); appended = told ∙ sym (append-nil before) }

-- ---- commands in a row

pub does_none : (n : Numbers) (core : Core) (text : List ℕ) → core.count ≤ 2 ^ 61 → RunsCommands n core core [] Continue text text
does_none n core text few = λ config past stood. record {
  now = past;
  written = [];
  stood = stood;
  few = few;
  goes = λ others. refl;
  appended = sym (append-nil text);
}

-- in front of other commands
went_more : (n : Numbers) (config : Config) (mid new : Core) (past : List Event) (cs ds : List Command) (answer : Handled) (before between after : List ℕ) → RanOn n config mid past cs before between
    → RunsCommands n mid new ds answer between after → RunResult n config new past (cs ++ ds) answer before after
went_more n config mid new past cs ds Continue before between after h d =
    let k = d config h.now h.stood in
    record {
      now = k.now;
      written = h.written ++ k.written;
      stood = k.stood;
      few = k.few;
      goes = λ others. ap (run_commands n config past) (append_assoc cs ds others) ∙ h.goes (ds ++ others) ∙ ap (with_prefix h.written) (k.goes others)
          ∙ ap (λ (w : List ℕ). record { written = w; ending = (run_commands n config k.now others).ending; past = (run_commands n config k.now others).past }) (sym (append_assoc h.written k.written (run_commands n config k.now others).written));
      appended = k.appended ∙ ap (λ (x : List ℕ). x ++ k.written) h.appended ∙ append_assoc before h.written k.written;
    }
went_more n config mid new past cs ds (Ends code) before between after h d =
    let k = d config h.now h.stood in
    record {
      now = k.now;
      written = h.written ++ k.written;
      stood = k.stood;
      few = k.few;
      ends = λ others. ap (run_commands n config past) (append_assoc cs ds others) ∙ h.goes (ds ++ others) ∙ ap (with_prefix h.written) (k.ends others);
      appended = k.appended ∙ ap (λ (x : List ℕ). x ++ k.written) h.appended ∙ append_assoc before h.written k.written;
    }
went_more n config mid new past cs ds (Unreadable place) before between after h d = absurd (d config h.now h.stood)
went_more n config mid new past cs ds NoMemory before between after h d =
    let k = d config h.now h.stood in
    record {
      part = h.written ++ k.part;
      begins = λ others.
          let b = k.begins others in
          (b.0, ap (λ (s : CommandRun). s.written) (ap (run_commands n config past) (append_assoc cs ds others) ∙ h.goes (ds ++ others)) ∙ ap (λ (x : List ℕ). h.written ++ x) b.1 ∙ sym (append_assoc h.written k.part b.0));
      appended = k.appended ∙ ap (λ (x : List ℕ). x ++ k.part) h.appended ∙ append_assoc before h.written k.part;
    }

pub does_more : (n : Numbers) (old mid new : Core) (cs ds : List Command) (answer : Handled) (before between after : List ℕ) → RunsCommands n old mid cs Continue before between → RunsCommands n mid new ds answer between after
    → RunsCommands n old new (cs ++ ds) answer before after
does_more n old mid new cs ds answer before between after first second = λ config past stood. went_more n config mid new past cs ds answer before between after (first config past stood) second

-- and where those aren't done
abbrev pub is_going : Handled → Bool
is_going Continue = true
is_going _ = false

did_all : (n : Numbers) (config : Config) (new : Core) (past : List Event) (cs ds : List Command) (answer : Handled) (before after : List ℕ) → is_going answer ≡ false → RunResult n config new past cs answer before after → RunResult n config new past (cs ++ ds) answer before after
did_all n config new past cs ds Continue before after stops h = absurd cc
did_all n config new past cs ds (Ends code) before after stops h = record {
  now = h.now;
  written = h.written;
  stood = h.stood;
  few = h.few;
  ends = λ others. ap (run_commands n config past) (append_assoc cs ds others) ∙ h.ends (ds ++ others);
  appended = h.appended;
}
did_all n config new past cs ds (Unreadable place) before after stops h = absurd h
did_all n config new past cs ds NoMemory before after stops h = record {
  part = h.part;
  begins = λ others. let b = h.begins (ds ++ others) in (b.0, ap (λ (s : CommandRun). s.written) (ap (run_commands n config past) (append_assoc cs ds others)) ∙ b.1);
  appended = h.appended;
}

pub does_all : (n : Numbers) (old new : Core) (cs ds : List Command) (answer : Handled) (before after : List ℕ) → is_going answer ≡ false → RunsCommands n old new cs answer before after → RunsCommands n old new (cs ++ ds) answer before after
does_all n old new cs ds answer before after stops first = λ config past stood. did_all n config new past cs ds answer before after stops (first config past stood)

-- a table that stood for a history stands for another behind it
pub stands_on : (n : Numbers) (old new : Core) (cs : List Command) (before after : List ℕ) → RunsCommands n old new cs Continue before after → (config : Config) × (past : List Event) × CoreAt config old past
    → (config : Config) × (past : List Event) × CoreAt config new past
stands_on n old new cs before after d h = (h.0, (d h.0 h.1 h.2).now, (d h.0 h.1 h.2).stood)

-- ---- the session begins and leaves

pub begins : (config : Config) (old new : Core) (given : Reply) → StandsFor old [] → old.config ≡ config → Acts old Begin given new → new.config ≡ old.config → is_no_memory given ≡ false → CoreAt config new (event config [] Begin ∷ [])
unfolding events
begins config old new given stands same acts kept has = (stood_more config old new [] Begin given (record { stands = stands; all = refl; config_is = same }) kept has acts).0

lack_not : (config : Config) (past : List Event) (given : Reply) → IsAnswer config past (record { command = Leave 0; reply = given }) → is_no_memory given ≡ false
unfolding reply_to
lack_not config past given (inl e) = ap is_no_memory e ∙ leave_in (is_gone past (Leave 0))
  where
    leave_in : (b : Bool) → is_no_memory (cond b reply.Gone reply.Left) ≡ false
    leave_in true = refl
    leave_in false = refl
lack_not config past given (inr e) = let both : false ≡ true = e.1 in absurd cc

pub leaves : (config : Config) (old new : Core) (past : List Event) (given : Reply) → CoreAt config old past → Acts old (Leave 0) given new → new.config ≡ old.config → CoreAt config new (event config past (Leave 0) ∷ past)
leaves config old new past given stood acts kept =
    let legal : IsAnswer new.config (events past) (record { command = Leave 0; reply = given }) = (acts past stood.stands).legal.0 in
    (stood_more config old new past (Leave 0) given stood kept (lack_not new.config (events past) given legal) acts).0

-- ---- one after another

-- the first of them are done, and the others are to come
pub record DoneSoFar (n : Numbers) (old now : Core) (all coming : List Command) (before after : List ℕ) : Type 0 where
  pub done : List Command
  pub does : RunsCommands n old now done Continue before after
  pub parts : all ≡ done ++ coming

pub none_done : (n : Numbers) (core : Core) (all coming : List Command) (text : List ℕ) → core.count ≤ 2 ^ 61 → coming ≡ all → DoneSoFar n core core all coming text text
none_done n core all coming text few is = record { done = []; does = does_none n core text few; parts = sym is }

-- one more
pub one_done : (n : Numbers) (old mid new : Core) (all coming others : List Command) (c : Command) (before between after : List ℕ) → DoneSoFar n old mid all coming before between → coming ≡ c ∷ others
    → RunsCommands n mid new (c ∷ []) Continue between after → DoneSoFar n old new all others before after
one_done n old mid new all coming others c before between after h first d = record {
  done = h.done ++ c ∷ [];
  does = does_more n old mid new h.done (c ∷ []) Continue before between after h.does d;
  parts = h.parts ∙ ap (λ (x : List Command). h.done ++ x) first ∙ sym (append_assoc h.done (c ∷ []) others);
}

-- the next ends them
pub next_ends : (n : Numbers) (old mid new : Core) (all coming others : List Command) (c : Command) (answer : Handled) (before between after : List ℕ) → is_going answer ≡ false → DoneSoFar n old mid all coming before between
    → coming ≡ c ∷ others → RunsCommands n mid new (c ∷ []) answer between after → RunsCommands n old new all answer before after
next_ends n old mid new all coming others c answer before between after stops h first d =
    let shape : all ≡ (h.done ++ c ∷ []) ++ others = h.parts ∙ ap (λ (x : List Command). h.done ++ x) first ∙ sym (append_assoc h.done (c ∷ []) others) in
    rw shape (does_all n old new (h.done ++ c ∷ []) others answer before after stops (does_more n old mid new h.done (c ∷ []) answer before between after h.does d))

pub all_done : (n : Numbers) (old new : Core) (all coming : List Command) (before after : List ℕ) → DoneSoFar n old new all coming before after → coming ≡ [] → RunsCommands n old new all Continue before after
all_done n old new all coming before after h none =
    let shape : all ≡ h.done = h.parts ∙ ap (λ (x : List Command). h.done ++ x) none ∙ append-nil h.done in
    rw shape h.does

pub still_stands : (n : Numbers) (old new : Core) (all coming : List Command) (before after : List ℕ) → DoneSoFar n old new all coming before after → (config : Config) × (past : List Event) × CoreAt config old past
    → (config : Config) × (past : List Event) × CoreAt config new past
still_stands n old new all coming before after h stood = stands_on n old new h.done before after h.does stood
