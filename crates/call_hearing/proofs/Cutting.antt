-- What a cutter gives of a call's bytes, and what is told of them.
use Rattle.std.proofs.Common.{◌≡◌, ℕ, ◌+◌, ◌<◌, Bool, false, true, List, [], ◌∷◌, ◌++◌, length, drop, refl, sym, ap, ◌∙◌, inl, inr, arith, append_assoc, Option, Some, None}
use Rattle.std.specs.List.{list_any}
use Rattle.std.proofs.lemmas.List.{append-nil, length-drop}
use Rattle.grpc_framing.specs.CutterState.{CutterState}
use Rattle.grpc_framing.specs.declared.cutter.Cut.TheVariants as answer
use Rattle.grpc_framing.specs.declared.cutter.Refusal.{Refusal}
use Rattle.grpc_framing.specs.declared.cutter.Refusal.TheVariants as refusal
use Rattle.grpc_framing.specs.declared.front.Front.{Front}
use Rattle.grpc_framing.specs.declared.front.Front.TheVariants.{Message, NeedMore, Compressed, TooLong}
use Rattle.grpc_framing.specs.Framing.{Messages, all_then, first_then, front_at, messages_of, stopped}
use Rattle.grpc_framing.specs.NextMessage.{NextMessage, Refuses}
use Rattle.grpc_framing.proofs.Fronts.{front_at-len, front_at-nil}
use Rattle.grpc_framing.proofs.Leading.{leads}
use Rattle.grpc_framing.proofs.Streams.{messages_of-at}
use Rattle.grpc_heads.specs.CallEnd.{compressed, too_long}
use Rattle.h2_exchange.specs.declared.role.Role.{Role}
use Rattle.h2_exchange.specs.declared.role.Role.TheVariants.{Client, Server}
use Rattle.h2_exchange.specs.Calls.{cut, is_ended_on, is_refused_cut}
use Rattle.h2_exchange.specs.Events.{Event, bytes_on}
use Rattle.grpc_stream.specs.CallTrace.{PeerEvent}
use Rattle.kept_calls.specs.declared.call.Receiving.TheVariants.{Open, Closed}
use Rattle.kept_calls.specs.CallState.{CallState}
use Rattle.call_hearing.specs.declared.pending.Pending.TheVariants.{Nothing, Cut}
use Rattle.call_hearing.specs.Laws.{CutsGoOn, message_told, refusal_told}
use Rattle.call_hearing.specs.Listening.{Cuts, Hears, cut_tells, ends_answers, has_method}
use Rattle.call_hearing.proofs.Telling.{awaits_is, cut_now}
use Rattle.call_hearing.proofs.Lasting.{and_not, cut_here, heads_first, one_ends}

pub cuts_in : (role : Role) (es : List Event) (reported : List PeerEvent) (c : CallState) → Hears role es reported (Cut c.stream) c Open → Cuts (bytes_on c.stream es) c.cutter
cuts_in Server es reported c h = h.cuts
cuts_in Client es reported c h = h.cuts

-- ---- a message

module _ (old new : CutterState) (m : List ℕ) (limit : old.limit ≡ 4194304) (h : NextMessage old (answer.Message m) new) where
  next_front : front_at 4194304 old.held ≡ Message (length m)
  next_front = ap (λ (k : ℕ). front_at k old.held) (sym limit) ∙ h.0

  held_is : new.held ≡ drop (5 + length m) old.held
  held_is = ap (λ (x : CutterState). x.held) h.2

  fewer : length new.held < length old.held
  fewer = omega (arith, front_at-len 4194304 old.held (length m) next_front, ap length held_is, length-drop (5 + length m) old.held)

  leading : (more : List ℕ) → cut (old.held ++ more) ≡ first_then m (cut (new.held ++ more))
  leading more =
      ap (λ (k : ℕ). messages_of k (old.held ++ more)) (sym limit) ∙ leads old (answer.Message m) new h more
      ∙ ap (λ (k : ℕ). first_then m (messages_of k (new.held ++ more))) (ap (λ (x : CutterState). x.limit) h.2 ∙ limit)

  leading_now : cut old.held ≡ first_then m (cut new.held)
  leading_now = ap cut (sym (append-nil old.held)) ∙ leading [] ∙ ap (λ (l : List ℕ). first_then m (cut l)) (append-nil new.held)

  cuts_on : (bytes : List ℕ) → Cuts bytes old → Cuts bytes new
  cuts_on bytes c = record {
    limit_is = ap (λ (x : CutterState). x.limit) h.2 ∙ limit;
    alive = ap (λ (x : CutterState). x.refusal) h.2;
    given = c.given ++ m ∷ [];
    leads = λ more.
        c.leads more ∙ ap (all_then c.given) (leading more)
        ∙ ap (λ (l : List (List ℕ)). record { messages = l; rest = (cut (new.held ++ more)).rest; ending = (cut (new.held ++ more)).ending }) (sym (append_assoc c.given (m ∷ []) (cut (new.held ++ more)).messages));
  }

message_tells : (role : Role) (id : ℕ) (m : List ℕ) (before : Messages) (after : Messages) → before ≡ first_then m after → cut_tells role id before ≡ message_told role id m ∷ cut_tells role id after
message_tells Server id m before after e = ap (cut_tells Server id) e
message_tells Client id m before after e = ap (cut_tells Client id) e

none_left : (a b : ℕ) → a < b → b ≡ 0 → ⊥
none_left a b e f = omega (arith, e, f)

message_hears : (role : Role) (es : List Event) (reported : List PeerEvent) (c : CallState) (m : List ℕ) (new : CutterState) →
    NextMessage c.cutter (answer.Message m) new → Hears role es reported (Cut c.stream) c Open → Hears role es reported (Cut c.stream) (record c { cutter = new }) Open
message_hears Server es reported c m new n h = record {
  begun = h.begun;
  shown = h.shown;
  cuts = cuts_on c.cutter new m h.cuts.limit_is n (bytes_on c.stream es) h.cuts;
  drained = λ quiet. cut_here c.stream quiet;
  whole = λ ended. absurd (none_left (length new.held) (length c.cutter.held) (fewer c.cutter new m h.cuts.limit_is n) (ap length (h.whole ended)));
}
message_hears Client es reported c m new n h = record {
  unended = h.unended;
  cuts = cuts_on c.cutter new m h.cuts.limit_is n (bytes_on c.stream es) h.cuts;
  drained = λ quiet. cut_here c.stream quiet;
}

-- ---- no message

drained_hears : (role : Role) (es : List Event) (reported : List PeerEvent) (c : CallState) → front_at 4194304 c.cutter.held ≡ NeedMore →
    Hears role es reported (Cut c.stream) c Open → Hears role es reported Nothing c Open
drained_hears Server es reported c front h = record { begun = h.begun; shown = h.shown; cuts = h.cuts; drained = λ quiet. front; whole = h.whole }
drained_hears Client es reported c front h = record { unended = h.unended; cuts = h.cuts; drained = λ quiet. front }

drained_tells : (role : Role) (id : ℕ) (before : Messages) (held : List ℕ) → before ≡ stopped held NeedMore → cut_tells role id before ≡ []
drained_tells Server id before held e = ap (cut_tells Server id) e
drained_tells Client id before held e = ap (cut_tells Client id) e

-- ---- a refusal

compressed_tells : (role : Role) (id : ℕ) (before : Messages) (held : List ℕ) → before ≡ stopped held Compressed → cut_tells role id before ≡ refusal_told role id compressed ∷ []
compressed_tells Server id before held e = ap (cut_tells Server id) e
compressed_tells Client id before held e = ap (cut_tells Client id) e

too_long_tells : (role : Role) (id : ℕ) (before : Messages) (held : List ℕ) → before ≡ stopped held TooLong → cut_tells role id before ≡ refusal_told role id too_long ∷ []
too_long_tells Server id before held e = ap (cut_tells Server id) e
too_long_tells Client id before held e = ap (cut_tells Client id) e

caused : (old new : CutterState) (why : Refusal) (cause : Type 0) → old.refusal ≡ None → Refuses why cause old new → cause
caused old new why cause alive r = elim r.cause_is [
  | inl was ↦ absurd (not_both (old.refusal) why alive was)
  | inr now ↦ now.1
]
  where
    not_both : (o : Option Refusal) (why : Refusal) → o ≡ None → o ≡ Some why → ⊥
    not_both None why e f = absurd cc
    not_both (Some other) why e f = absurd cc

refused_hears : (role : Role) (es : List Event) (reported : List PeerEvent) (c : CallState) (stop : Messages) → cut c.cutter.held ≡ stop → ((ended : Bool) (given : List (List ℕ)) → is_refused_cut ended (all_then given stop) ≡ true) →
    Hears role es reported (Cut c.stream) c Open → Hears role es reported Nothing c Closed
refused_hears Server es reported c stop e refuses h = (
  heads_first es c.stream h.begun,
  and_not (has_method es c.stream) (is_refused_cut (list_any (is_ended_on c.stream) es) (cut (bytes_on c.stream es)))
      (inr (ap (is_refused_cut (list_any (is_ended_on c.stream) es)) (cut_now (bytes_on c.stream es) c.cutter h.cuts ∙ ap (all_then h.cuts.given) e) ∙ refuses (list_any (is_ended_on c.stream) es) h.cuts.given)),
)
refused_hears Client es reported c stop e refuses h =
    awaits_is c.stream es
    ∙ one_ends (list_any (ends_answers c.stream) es) (is_refused_cut false (cut (bytes_on c.stream es)))
    (inr (ap (is_refused_cut false) (cut_now (bytes_on c.stream es) c.cutter h.cuts ∙ ap (all_then h.cuts.given) e) ∙ refuses false h.cuts.given))

at_limit : (c : CutterState) (f : Front) → c.limit ≡ 4194304 → front_at c.limit c.held ≡ f → front_at 4194304 c.held ≡ f
at_limit c f limit e = ap (λ (k : ℕ). front_at k c.held) (sym limit) ∙ e

pub cuts_go_on : CutsGoOn
cuts_go_on = record {
  nothing = λ role id. drained_tells role id (cut []) [] (messages_of-at 4194304 [] NeedMore (front_at-nil 4194304));
  message = λ role es reported c m new n h.
      let cuts = cuts_in role es reported c h in
      record {
        tells = message_tells role c.stream m (cut c.cutter.held) (cut new.held) (leading_now c.cutter new m cuts.limit_is n);
        hears = message_hears role es reported c m new n h;
        less = fewer c.cutter new m cuts.limit_is n;
      };
  drained = λ role es reported c new n h.
      let cuts = cuts_in role es reported c h in
      let front = at_limit c.cutter NeedMore cuts.limit_is n.0 in
      record {
        same = n.1;
        tells = drained_tells role c.stream (cut c.cutter.held) c.cutter.held (messages_of-at 4194304 c.cutter.held NeedMore front);
        hears = drained_hears role es reported c front h;
      };
  compressed = λ role es reported c new n h.
      let cuts = cuts_in role es reported c h in
      let front = at_limit c.cutter Compressed cuts.limit_is (caused c.cutter new refusal.Compressed _ cuts.alive n) in
      let stop = messages_of-at 4194304 c.cutter.held Compressed front in
      record {
        tells = compressed_tells role c.stream (cut c.cutter.held) c.cutter.held stop;
        hears = refused_hears role es reported c (stopped c.cutter.held Compressed) stop (λ ended given. refl) h;
      };
  too_long = λ role es reported c new n h.
      let cuts = cuts_in role es reported c h in
      let front = at_limit c.cutter TooLong cuts.limit_is (caused c.cutter new refusal.TooLong _ cuts.alive n) in
      let stop = messages_of-at 4194304 c.cutter.held TooLong front in
      record {
        tells = too_long_tells role c.stream (cut c.cutter.held) c.cutter.held stop;
        hears = refused_hears role es reported c (stopped c.cutter.held TooLong) stop (λ ended given. refl) h;
      };
}
