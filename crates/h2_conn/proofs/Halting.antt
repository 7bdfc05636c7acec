-- A received frame that ends the connection, or for which no memory is left.
use Rattle.std.proofs.Common.{◌≡◌, ℕ, ◌≤◌, ◌/◌, ◌%◌, ◌^◌, inl, List, [], ◌∷◌, ◌++◌, length, take, drop, Option, Some, None, refl, sym, ap, subst, ◌∙◌, arith}
use Rattle.std.specs.Prelude.{is_some, if◌then◌else◌}
use Rattle.std.specs.Option.{option_or}
use Rattle.std.specs.List.{list_any}
use Rattle.std.specs.Int.{w32, to_be_bytes, from_be_bytes}
use Rattle.std.proofs.lemmas.List.{append-nil, take-take}
use Rattle.std.proofs.lemmas.Nat.{from_be_bytes-to_be_bytes_4}
use Rattle.h2_frames.specs.declared.frame.Frame.{Frame}
use Rattle.h2_frames.specs.Layout.{body_of, size_of, said_length, BeginsWithFrame, IsFrame}
use Rattle.h2_frames.specs.Stream.{Reads, HasAnother}
use Rattle.h2_frames.proofs.Streams.{front_of, IsPrefix as StandsIn}
use Rattle.h2_exchange.specs.Compression.{limited_by}
use Rattle.h2_exchange.specs.Content.{Outcome}
use Rattle.h2_exchange.specs.Events.{events_of}
use Rattle.h2_exchange.specs.Exchange.{Step, Received, received, collect, front_before}
use Rattle.h2_exchange.specs.Frames.{is_goaway}
use Rattle.h2_exchange.specs.Order.{peer_preface}
use Rattle.h2_exchange.specs.Outcomes.{AreKnown}
use Rattle.h2_exchange.specs.Sending.{last_begun}
use Rattle.h2_exchange.specs.Stops.{Stop, Error, Calm, stop_at, stop_of, before_stop, events}
use Rattle.h2_exchange.proofs.Looking.{front_goes_on, given_more}
use Rattle.h2_exchange.proofs.Staying.{events_more}
use Rattle.h2_exchange.proofs.Steps.{sent_received}
use Rattle.http_connection.specs.Answers as answer
use Rattle.http_connection.specs.Answers.{IsCause, after}
use Rattle.http_connection.specs.ConnectionTrace.{ConnectionTrace, stop_in}
use Rattle.h2_conn.specs.declared.heard.End.{End}
use Rattle.h2_conn.specs.Hears.{Ending, Starved, stop_by as stop_of_end}
use Rattle.h2_conn.specs.State.{State}
use Rattle.h2_conn.specs.Standing.{Going, Kept, ends_of}
use Rattle.h2_conn.specs.Steps.{Waiting}
use Rattle.h2_conn.specs.Watching.{stop_by}
use Rattle.h2_conn.proofs.Further.{stop_known, events_known, resets_known}
use Rattle.h2_conn.proofs.Hearing.{heard, hears_kept}
use Rattle.h2_conn.proofs.Splits.{resets_heard}

cause_of : (c : ConnectionTrace) (stop : Stop) → stop_in c ≡ Some stop → IsCause c stop
cause_of c (Error why place) e = ([], inl e, λ none. absurd (let t : None ≡ Some (Error why place) = sym none ∙ e in cc))
cause_of c (Calm cause) e = e

first_stop : (a b : Option Stop) (stop : Stop) → a ≡ None → b ≡ Some stop → option_or a (option_or b None) ≡ Some stop
first_stop None None stop e f = absurd cc
first_stop None (Some v) stop e f = f
first_stop (Some v) b stop e f = absurd cc

none_left : {S : Type 0} (o : Option Stop) (stop : Stop) (s : S) → o ≡ Some stop → (if is_some o then [] else s ∷ []) ≡ []
none_left None stop s e = absurd cc
none_left (Some v) stop s e = refl

module _ (s t : State) (c : ConnectionTrace) (f : Frame) (outcomes : List Outcome) (w : Waiting s c f) (role : c.role ≡ t.role) (limits : c.limits ≡ t.limits) (holding : c.is_holding ≡ t.is_holding) (output : t.output ≡ s.output) where
  abbrev heads : List Outcome
  heads = c.heads ++ outcomes

  abbrev at : ConnectionTrace
  at = after (Received f ∷ []) outcomes [] None c

  a : Going (record s { reader = w.before }) c [] []
  a = subst (λ (o : Option ℕ). Going (record s { reader = w.before }) c (ends_of o) []) w.none_ended (w.stands.goes w.alive)

  clear : stop_of c.role c.limits c.heads c.frames ≡ None
  clear = a.stop_is ∙ ap stop_by w.unpassed

  known_clear : stop_of c.role c.limits heads c.frames ≡ None
  known_clear = stop_known c.role c.limits c.heads outcomes c.frames (w.stands.kept.read.enough, clear)

  module _ (stop : Stop) (stopped : stop_at c.role c.limits heads c.frames (Received f) ≡ Some stop) where
    stop_is : stop_of c.role c.limits heads (c.frames ++ Received f ∷ []) ≡ Some stop
    stop_is =
        given_more (stop_at c.role c.limits heads) [] c.frames (Received f ∷ [])
        ∙ first_stop (stop_of c.role c.limits heads c.frames) (stop_at c.role c.limits heads c.frames (Received f)) stop known_clear stopped

    none_behind : front_before (stop_at c.role c.limits heads) c.frames (Received f ∷ []) ≡ []
    none_behind = none_left (stop_at c.role c.limits heads c.frames (Received f)) stop (Received f) stopped

    going_is : before_stop c.role c.limits heads (c.frames ++ Received f ∷ []) ≡ c.frames
    going_is = front_goes_on (stop_at c.role c.limits heads) [] c.frames (Received f ∷ []) known_clear ∙ ap (λ (x : List Step). c.frames ++ x) none_behind ∙ append-nil c.frames

    events_are : events c.role c.limits heads (c.frames ++ Received f ∷ []) ≡ c.given
    events_are =
        events_more c.role c.limits heads c.frames (Received f ∷ []) known_clear
        ∙ ap (λ (x : List Step). events c.role c.limits heads c.frames ++ collect (events_of c.role c.limits heads) c.frames x) none_behind
        ∙ append-nil (events c.role c.limits heads c.frames)
        ∙ events_known c.role c.limits c.heads outcomes c.frames (w.stands.kept.read.enough, clear) ∙ a.given_is ∙ append-nil c.given

    kept : AreKnown c.role c.limits heads (c.frames ++ Received f ∷ []) → Kept (heard f outcomes c) s.output (limited_by f w.stands.last)
    kept known = hears_kept c s.output w.stands.last f outcomes s.reader w.stands.kept w.reads known ([], events_are ∙ sym (append-nil c.given))

  pub ending : (end : End) (last : ℕ) → stop_at c.role c.limits heads c.frames (Received f) ≡ Some (stop_of_end end) → AreKnown c.role c.limits heads (c.frames ++ Received f ∷ []) → last_begun c.role c.frames ≡ last → Ending t c end last
  ending end last stopped known same =
      let k = kept (stop_of_end end) stopped known in
      let stop = stop_is (stop_of_end end) stopped in
      record {
        at = at;
        goes = record { alive = w.stands.refusal_is ∙ w.alive; more = Received f ∷ []; outcomes = outcomes; receives = answer.stops c.frames f (stop_of_end end) known_clear stop; goes_on = refl };
        halted = record {
          role_is = role;
          limits_are = limits;
          holding_is = holding;
          enc = limited_by f w.stands.last;
          kept = subst (λ (o : List ℕ). Kept at o (limited_by f w.stands.last)) (sym output) (record {
            front = k.front;
            within = k.within;
            text = k.text;
            read = k.read;
            spelled = k.spelled;
            writable = k.writable;
            closed = k.closed;
            given = ([], events_are (stop_of_end end) stopped ∙ sym (append-nil c.given) ∙ sym (append-nil (c.given ++ [])));
            placed = k.placed;
            acknowledged = k.acknowledged;
            windows = k.windows;
          });
          resets = resets_heard c.role c.limits heads c.frames f (resets_known c.role c.limits c.heads outcomes c.frames w.stands.kept.read.enough w.stands.resets) (λ why e q. absurd (let x : None ≡ Some (stop_of_end end) = sym e ∙ stop in cc));
          stays = ap (list_any is_goaway) (sent_received c.frames f) ∙ a.stays;
          given = append-nil c.given ∙ sym (events_are (stop_of_end end) stopped);
          cause = cause_of at (stop_of_end end) stop;
          last_is = ap (last_begun c.role) (going_is (stop_of_end end) stopped) ∙ same;
        };
      }

-- ---- no memory

value : (n : ℕ) → n ≤ 16384 → from_be_bytes w32 (0 ∷ drop 1 (to_be_bytes w32 n)) ≡ n
value n small =
    let top : n / 256 ^ 3 % 256 ≡ 0 = omega (arith, small) in
    ap (λ (b : ℕ). from_be_bytes w32 (b ∷ drop 1 (to_be_bytes w32 n))) (sym top) ∙ from_be_bytes-to_be_bytes_4 n (omega (arith, small))

begins : (bytes : List ℕ) (f : Frame) → size_of f ≤ length bytes → IsFrame (take (size_of f) bytes) f → BeginsWithFrame bytes
begins bytes f whole frame =
    let three : take 3 bytes ≡ drop 1 (to_be_bytes w32 (length (body_of f).payload)) = sym (take-take 3 (size_of f) bytes (omega arith)) ∙ ap (λ (x : List ℕ). take 3 x) frame.2 in
    let said : said_length bytes ≡ length (body_of f).payload = ap (λ (x : List ℕ). from_be_bytes w32 (0 ∷ x)) three ∙ value _ (body_of f).payload_in_range in
    (omega (arith, said, (body_of f).payload_in_range), omega (arith, said, whole))

-- the last of these frames stands behind the others
last_stands : (bytes : List ℕ) (fs : List Frame) (f : Frame) (rest : List ℕ) → Reads bytes (fs ++ f ∷ []) rest → (mid : List ℕ) × Reads bytes fs mid × BeginsWithFrame mid
last_stands bytes [] f rest h = (bytes, refl, begins bytes f h.0 h.1)
last_stands bytes (g ∷ fs) f rest h = let r = last_stands (drop (size_of g) bytes) fs f rest h.2 in (r.0, (h.0, h.1, r.1), r.2)

another : (due bytes : List ℕ) (fs : List Frame) (f : Frame) → StandsIn due bytes (fs ++ f ∷ []) → HasAnother due bytes fs
another due bytes [] f h = let r = last_stands (drop (length due) bytes) [] f h.0 h.2 in (r.0, h.1, r.1, r.2)
another due bytes (g ∷ fs) f h = let r = last_stands (drop (length due) bytes) (g ∷ fs) f h.0 h.2 in (r.0, h.1, r.1, r.2)

pub starves : (s t : State) (c : ConnectionTrace) (f : Frame) → Waiting s c f → c.role ≡ t.role → c.limits ≡ t.limits → c.is_holding ≡ t.is_holding → t.output ≡ s.output → Starved t c
starves s t c f w role limits holding output = record {
  alive = w.stands.refusal_is ∙ w.alive;
  role_is = role;
  limits_are = limits;
  holding_is = holding;
  enc = w.stands.last;
  kept = subst (λ (o : List ℕ). Kept c o w.stands.last) (sym output) w.stands.kept;
  resets = w.stands.resets;
  work = inl (another (peer_preface c.role) c.fed (received c.frames) f (front_of (peer_preface c.role) s.reader c.fed (received c.frames ++ f ∷ []) w.reads));
}
