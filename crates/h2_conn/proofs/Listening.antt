-- What a connection says behind the frames that it took.
use Rattle.std.proofs.Common.{◌≡◌, ℕ, Bool, false, ◌⊎◌, inl, inr, List, [], Option, Some, None, refl, sym, ap, subst, ◌∙◌}
use Rattle.std.proofs.lemmas.List.{append-nil}
use Rattle.h2_exchange.specs.Exchange.{sent}
use Rattle.h2_exchange.specs.Events.{Event}
use Rattle.h2_exchange.specs.Sending.{acks_in}
use Rattle.h2_exchange.specs.Stops.{stop_of}
use Rattle.http_connection.specs.declared.event.H2Event.{H2Event}
use Rattle.http_connection.specs.declared.event.H2Event.TheVariants as says
use Rattle.http_connection.specs.Answers.{Answers, GivesEvents, NeedsMore, Stops}
use Rattle.http_connection.specs.ConnectionTrace.{ConnectionTrace, NoMemory}
use Rattle.h2_conn.specs.declared.conn.Why.{Why}
use Rattle.h2_conn.specs.declared.conn.Why.TheVariants as was
use Rattle.h2_conn.specs.declared.heard.End.{End}
use Rattle.h2_conn.specs.declared.heard.End.TheVariants as by
use Rattle.h2_conn.specs.Hears.{Taken, Quiet, Ending, Idle, Starved, event_of_refusal, with_last, stop_by as stop_of_end}
use Rattle.h2_conn.specs.State.{State, refusal_by}
use Rattle.h2_conn.specs.Standing.{Stands, HasCredit}
use Rattle.h2_conn.specs.Steps.{Halted, with_goaway}
use Rattle.h2_conn.specs.Watching.{stop_by}
use Rattle.h2_conn.proofs.Chained.{goes_join}
use Rattle.h2_conn.proofs.Reading.{a}
use Rattle.h2_conn.proofs.Stopping.{halts, runs_out}

-- what is said is why it ends, or that no memory is left
abbrev pub SaysEnd : End → ℕ → State → H2Event → State → Type 0
SaysEnd end last s said t = ((said ≡ event_of_refusal (with_last end)) × (t ≡ with_goaway last (stop_of_end end) s)) ⊎ ((said ≡ says.NoMemory) × (t ≡ record s { refusal = Some NoMemory }))

abbrev LeavesRest : ConnectionTrace → H2Event → State → Type 0
LeavesRest c said t = (d : ConnectionTrace) × Stands t d × Answers c said d

stopped : (c d : ConnectionTrace) (end : End) → Stops c (stop_of_end end) d → Answers c (event_of_refusal (with_last end)) d
stopped c d (by.Broken why place) h = inr h
stopped c d (by.Calm cause) h = inr h

ends_by : (s t : State) (c at : ConnectionTrace) (end : End) (last : ℕ) (said : H2Event) → GivesEvents c [] at → Halted s last (stop_of_end end) at → SaysEnd end last s said t → LeavesRest c said t
ends_by s t c at end last said goes h (inl e) =
    let r = halts s c at (stop_of_end end) last goes h in
    subst (λ (u : State). LeavesRest c said u) (sym e.1) (subst (λ (x : H2Event). LeavesRest c x (with_goaway last (stop_of_end end) s)) (sym e.0) (r.0, r.1, stopped c r.0 end r.2))
ends_by s t c at end last said goes h (inr e) =
    let r = runs_out s c at h.enc goes (inr (stop_of_end end, h.cause)) h.role_is h.limits_are h.holding_is h.kept h.resets in
    subst (λ (u : State). LeavesRest c said u) (sym e.1) (subst (λ (x : H2Event). LeavesRest c x (record s { refusal = Some NoMemory })) (sym e.0) (r.0, r.1, inr r.2))

pub none_left : (s t : State) (c m : ConnectionTrace) (said : H2Event) → GivesEvents c [] m → Starved s m → said ≡ says.NoMemory → t ≡ record s { refusal = Some NoMemory } → LeavesRest c said t
none_left s t c m said goes h e f =
    let r = runs_out s c m h.enc goes h.work h.role_is h.limits_are h.holding_is h.kept h.resets in
    subst (λ (u : State). LeavesRest c said u) (sym f) (subst (λ (x : H2Event). LeavesRest c x (record s { refusal = Some NoMemory })) (sym e) (r.0, r.1, inr r.2))

-- it has not refused
pub lives : (s : State) (c m : ConnectionTrace) → Stands s m → GivesEvents c [] m → s.refusal ≡ None
lives s c m h goes = sym h.refusal_is ∙ ap (λ (x : ConnectionTrace). x.refusal) goes.goes_on

pub lives_so : (w : Option Why) → refusal_by w ≡ None → w ≡ None
lives_so None e = refl
lives_so (Some (was.Broken why place)) e = absurd cc
lives_so (Some (was.Calm cause)) e = absurd cc
lives_so (Some was.NoMemory) e = absurd cc

module _ (s : State) (c m : ConnectionTrace) (h : Stands s m) (none : s.ended ≡ None) (unpassed : s.watch.is_passed ≡ false) (goes : GivesEvents c [] m) where
  alive : s.refusal ≡ None
  alive = lives s c m h goes

  clear : stop_of m.role m.limits m.heads m.frames ≡ None
  clear = (a s m h alive none).stop_is ∙ ap stop_by unpassed

  pub goes_on : (d : ConnectionTrace) (es : List Event) → GivesEvents m es d → GivesEvents c es d
  goes_on d es k = goes_join c m d es h.kept.read.enough clear goes k

  pub gives : (t : State) (es : List Event) → Taken t m es → (d : ConnectionTrace) × Stands t d × GivesEvents c es d
  gives t es k = (k.next, k.stands, goes_on k.next es k.goes)

  pub waits : (t : State) → Idle t m → (d : ConnectionTrace) × Stands t d × NeedsMore c d
  waits t k = (
    m,
    k.stands,
    record {
      goes = goes;
      given = sym ((a s m h alive none).given_is ∙ append-nil m.given);
      unstopped = clear;
      rest = k.rest;
      whole = k.whole;
      acknowledged = sym (append-nil (acks_in (sent m.frames))) ∙ (a s m h alive none).acknowledged;
      credited = λ q. subst (λ (b : Bool). HasCredit b m.role m.limits m.frames) (sym h.holding_is ∙ q) (h.credited alive);
    },
  )

  pub ends : (t u : State) (end : End) (last : ℕ) (said : H2Event) → Ending t m end last → SaysEnd end last t said u → LeavesRest c said u
  ends t u end last said k e = ends_by t u c k.at end last said (goes_on k.at [] k.goes) k.halted e

-- where more requests were cut off than may be
pub calms : (s t : State) (c m : ConnectionTrace) (end : End) (last n : ℕ) (said : H2Event) → n ≡ last → GivesEvents c [] m → Halted s last (stop_of_end end) m → SaysEnd end n s said t → LeavesRest c said t
calms s t c m end last n said same goes h e = ends_by s t c m end n said goes (subst (λ (k : ℕ). Halted s k (stop_of_end end) m) (sym same) h) e

-- a frame was taken that gives nothing
pub more : (t : State) (c m : ConnectionTrace) → ((es : List Event) (d : ConnectionTrace) → GivesEvents m es d → GivesEvents c es d) → Quiet t m → (d : ConnectionTrace) × Stands t d × GivesEvents c [] d × (t.ended ≡ None)
more t c m on q = (q.taken.next, q.taken.stands, on [] q.taken.next q.taken.goes, q.none_ended)
