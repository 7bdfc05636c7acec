-- Laws of accounts, in the order of arguments that a turn uses, and what one stream waits for.
use Rattle.std.proofs.Common.{◌≡◌, ◌≤◌, ℕ, ◌+◌, ◌==◌, ◌||◌, ◌&&◌, Bool, true, false, List, [], ◌∷◌, refl, sym, ap, ◌∙◌, arith, sum_by, eqb-true}
use Rattle.std.specs.Prelude.{filter, not, if◌then◌else◌}
use Rattle.std.specs.List.{list_any}
use Rattle.std.proofs.lemmas.List.Sums.{sum_by-cons}
use Rattle.rig_io.specs.Link.{Piece}
use Rattle.grpc_stream.specs.CallTrace.{CallTrace, unsent_on, waiting_in}
use Rattle.grpc_heads.specs.CallEnd.{CallEnd}
use Rattle.h2_exchange.specs.StreamParts.{Item}
use Rattle.h2_exchange.specs.Streams.{begun, is_begun, is_live, is_over}
use Rattle.h2_exchange.proofs.Steps.{begun_has}
use Rattle.table_model.specs.Event.{Event}
use Rattle.call_answers.specs.declared.orders.Setting.{Setting}
use Rattle.call_orders.specs.Calls.{Action}
use Rattle.session_engine.specs.Queries.{OpenCallsView}
use Rattle.server_turns.specs.Past.{Past}
use Rattle.server_account.specs.Laws.{AgreementServes, ConnectionStarts, PumpsKeepUp}
use Rattle.server_account.proofs.Credits.{credits_keep}
use Rattle.server_account.proofs.Pumped.{pumped, waits_fit}
use Rattle.server_account.proofs.Serves as serves
use Rattle.server_account.proofs.Starts.{settles, starts}

pub agreement_serves : AgreementServes
agreement_serves = λ s t output rest calls past actions h settled ended.
    serves.agreement_serves s t output rest calls past actions h.server h.told h.handled settled ended

pub connection_starts : ConnectionStarts
connection_starts = λ s limits first output calls is text sound none.
    (starts s limits first output calls is text sound none, settles s limits first output calls is text)

pub pumps_keep_up : (s : Setting) (t : CallTrace) (output later : List ℕ) (calls : OpenCallsView) (actions : List Action) (pieces : List Piece)
    (own : List Event) (left : ℕ → List (Item CallEnd)) (past : Past) (rest : List ℕ) → PumpsKeepUp s t output later calls actions pieces own left past rest
pumps_keep_up s t output later calls actions pieces own left past rest = record {
  answered = λ u id h pumps alive none kept. pumped s t u later h.server pumps alive id past rest actions (h.handled.taken id) none kept;
  waits = λ h. waits_fit s t output rest actions left h.server.role h.handled.taken;
  credits = λ hold fs id carries. credits_keep s t output later past rest actions hold fs id carries;
}

-- ---- what waits on one live stream is part of what waits

part_of : (f : ℕ → ℕ) (p : ℕ → Bool) (ids : List ℕ) (id : ℕ) → list_any (λ i. i == id) ids ≡ true → p id ≡ true → f id ≤ sum_by f (filter p ids)
part_of f p [] id has is = absurd cc
part_of f p (i ∷ ids) id has is = by (i == id) (p i) refl refl (λ k. part_of f p ids id k is) has
  where
    by : (t q : Bool) → (i == id) ≡ t → p i ≡ q → (list_any (λ k. k == id) ids ≡ true → f id ≤ sum_by f (filter p ids)) →
        (t || list_any (λ k. k == id) ids) ≡ true → f id ≤ sum_by f (if q then i ∷ filter p ids else filter p ids)
    by true true same q deep has = (let a : f i ≡ f id = ap f (eqb-true i id same) in omega (arith, sum_by-cons f i (filter p ids)))
    by true false same q deep has = (let clash : true ≡ false = sym is ∙ ap p (sym (eqb-true i id same)) ∙ q in absurd cc)
    by false true same q deep has = (let a = deep has in omega (arith, sum_by-cons f i (filter p ids)))
    by false false same q deep has = deep has

both_true : (a b : Bool) → (a && b) ≡ true → a ≡ true
both_true true b e = refl
both_true false b e = absurd cc

pub one_waits : (t : CallTrace) (id : ℕ) → is_live t.connection_trace.role t.connection_trace.frames id ≡ true → unsent_on t id ≤ waiting_in t
one_waits t id is =
    part_of (unsent_on t) (is_live t.connection_trace.role t.connection_trace.frames) (begun t.connection_trace.role t.connection_trace.frames) id
    (begun_has t.connection_trace.role t.connection_trace.frames id
    ∙ both_true (is_begun t.connection_trace.role t.connection_trace.frames id) (not (is_over t.connection_trace.frames id)) is)
    is
