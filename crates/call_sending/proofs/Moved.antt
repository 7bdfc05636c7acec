-- What DATA adds, what frames of one stream add together, and what stays as it was behind them.
use Rattle.std.proofs.Common.{◌≡◌, ℕ, ◌+◌, ◌==◌, Bool, true, false, ◌&&◌, ◌||◌, List, [], ◌∷◌, ◌++◌, length, map, refl, sym, ap, subst, ◌∙◌, append_assoc, arith}
use Rattle.std.specs.Prelude.{not, if◌then◌else◌}
use Rattle.std.proofs.lemmas.Bool.{false≢true}
use Rattle.std.proofs.lemmas.List.{append-nil, map-append}
use Rattle.std.proofs.lemmas.List.Sums.{sum_by-append}
use Rattle.hpack_tables.specs.declared.field.Field.{Field}
use Rattle.h2_frames.specs.declared.frame.Frame.{Frame}
use Rattle.h2_exchange.specs.declared.role.Role.{Role}
use Rattle.h2_exchange.specs.Exchange.{Step, Sent, received, sent}
use Rattle.h2_exchange.specs.Frames.{counted, stream_of}
use Rattle.h2_exchange.specs.StreamParts.{Part, parts}
use Rattle.h2_exchange.specs.Streams.{begun, is_begun, is_ended_by, is_live, is_open, is_over}
use Rattle.h2_exchange.specs.Windows.{granted_on, initial_window, may_send, spent, spent_on}
use Rattle.h2_exchange.proofs.Looking.{or_nothing}
use Rattle.h2_exchange.proofs.Steps.{ended_more, over_stays, received_more, sent_more}
use Rattle.http_connection.proofs.Unheard.{all_sent, none_received}
use Rattle.http_connection.specs.Sends.{CarryBytes}
use Rattle.grpc_stream.specs.Sends.{AreCarried}
use Rattle.call_sending.specs.Moves.{IsReady, Moves}
use Rattle.call_sending.proofs.Joined.{piece_parts}
use Rattle.call_sending.proofs.Moving.{data_moves}

-- ---- nothing, and one DATA

either_none : {A : Type 0} (t : Bool) (a : A) → (if t then a else a) ≡ a
either_none true a = refl
either_none false a = refl

pub none_moves : (role : Role) (x : List Step) (w : List (List Field)) (id : ℕ) → IsReady x w → Moves role x w id [] 0 false [] []
none_moves role x w id ready = record {
  carried = tt;
  parts_are = λ k.
      ap (λ (y : List Step). parts k (w ++ []) (sent y)) (append-nil x) ∙ ap (λ (l : List (List Field)). parts k l (sent x)) (append-nil w)
      ∙ sym (ap (λ (ps : List Part). parts k w (sent x) ++ ps) (either_none (id == k) []) ∙ append-nil (parts k w (sent x)));
  spent_is = λ k. omega (arith, ap (λ (y : List Step). spent_on k (sent y)) (append-nil x), either_none {A = ℕ} (id == k) 0);
  ended_is = λ k. ap (λ (y : List Step). is_ended_by (sent y) k) (append-nil x) ∙ sym (or_nothing (is_ended_by (sent x) k));
  begun_is = λ k. ap (λ (y : List Step). is_begun role y k) (append-nil x);
  list_is = ap (begun role) (append-nil x);
  ready = subst (λ (y : List Step). IsReady y (w ++ [])) (sym (append-nil x)) (subst (IsReady x) (sym (append-nil w)) ready);
}

pub piece_moves : (role : Role) (x : List Step) (w : List (List Field)) (id : ℕ) (last : Bool) (payload : List ℕ) (fs : List Frame) → IsReady x w → is_open role x id ≡ true → CarryBytes id last payload fs →
    Moves role x w id (piece_parts last payload) (length payload) last fs []
piece_moves role x w id true payload fs ready o (b, same, is) =
    subst (λ (gs : List Frame). Moves role x w id (piece_parts true payload) (length payload) true gs []) (sym same) (data_moves role x w id payload true b ready o is)
piece_moves role x w id false [] fs ready o same =
    subst (λ (gs : List Frame). Moves role x w id [] 0 false gs []) (sym same) (none_moves role x w id ready)
piece_moves role x w id false (p ∷ payload) fs ready o (b, same, is) =
    subst (λ (gs : List Frame). Moves role x w id (piece_parts false (p ∷ payload)) (length (p ∷ payload)) false gs []) (sym same) (data_moves role x w id (p ∷ payload) false b ready o is)

-- ---- one behind another

pub carried_more : (role : Role) (x : List Step) (fs gs : List Frame) → AreCarried role x fs → AreCarried role (x ++ map Sent fs) gs → AreCarried role x (fs ++ gs)
carried_more role x [] gs h k = subst (λ (y : List Step). AreCarried role y gs) (append-nil x) k
carried_more role x (f ∷ fs) gs (now, h) k =
    (now, carried_more role (x ++ Sent f ∷ []) fs gs h (subst (λ (y : List Step). AreCarried role y gs) (sym (append_assoc x (Sent f ∷ []) (map Sent fs))) k))

parts_joined : (t : Bool) (ps qs : List Part) → (if t then ps else []) ++ (if t then qs else []) ≡ (if t then ps ++ qs else [])
parts_joined true ps qs = refl
parts_joined false ps qs = refl

added : (t : Bool) (n m : ℕ) → (if t then n else 0) + (if t then m else 0) ≡ (if t then n + m else 0)
added true n m = refl
added false n m = refl

ended_joined : (a b c t : Bool) → ((a || (b && t)) || (c && t)) ≡ (a || ((b || c) && t))
ended_joined true b c t = refl
ended_joined false true c true = refl
ended_joined false true true false = refl
ended_joined false true false false = refl
ended_joined false false c t = refl

module _ (role : Role) (x : List Step) (w : List (List Field)) (id : ℕ) (ps qs : List Part) (n m : ℕ) (ends later : Bool) (fs gs : List Frame) (lists others : List (List Field))
    (p : Moves role x w id ps n ends fs lists) (q : Moves role (x ++ map Sent fs) (w ++ lists) id qs m later gs others) where
  steps_are : (x ++ map Sent fs) ++ map Sent gs ≡ x ++ map Sent (fs ++ gs)
  steps_are = append_assoc x (map Sent fs) (map Sent gs) ∙ ap (λ (y : List Step). x ++ y) (sym (map-append Sent fs gs))

  pub moves_more : Moves role x w id (ps ++ qs) (n + m) (ends || later) (fs ++ gs) (lists ++ others)
  moves_more = record {
    carried = carried_more role x fs gs p.carried q.carried;
    parts_are = λ k.
        ap (λ (y : List Step). parts k (w ++ (lists ++ others)) (sent y)) (sym steps_are)
        ∙ ap (λ (l : List (List Field)). parts k l (sent ((x ++ map Sent fs) ++ map Sent gs))) (sym (append_assoc w lists others))
        ∙ q.parts_are k ∙ ap (λ (r : List Part). r ++ (if id == k then qs else [])) (p.parts_are k)
        ∙ append_assoc (parts k w (sent x)) (if id == k then ps else []) (if id == k then qs else [])
        ∙ ap (λ (r : List Part). parts k w (sent x) ++ r) (parts_joined (id == k) ps qs);
    spent_is = λ k. omega (arith, ap (λ (y : List Step). spent_on k (sent y)) steps_are, q.spent_is k, p.spent_is k, added (id == k) n m);
    ended_is = λ k.
        ap (λ (y : List Step). is_ended_by (sent y) k) (sym steps_are) ∙ q.ended_is k ∙ ap (λ (b : Bool). b || (later && id == k)) (p.ended_is k)
        ∙ ended_joined (is_ended_by (sent x) k) ends later (id == k);
    begun_is = λ k. ap (λ (y : List Step). is_begun role y k) (sym steps_are) ∙ q.begun_is k ∙ p.begun_is k;
    list_is = ap (begun role) (sym steps_are) ∙ q.list_is ∙ p.list_is;
    ready = subst (λ (y : List Step). IsReady y (w ++ (lists ++ others))) steps_are (subst (IsReady ((x ++ map Sent fs) ++ map Sent gs)) (append_assoc w lists others) q.ready);
  }

-- ---- what is received stays, what is ended stays ended, and windows do not grow

pub received_kept : (x : List Step) (fs : List Frame) → received (x ++ map Sent fs) ≡ received x
received_kept x fs = received_more x (map Sent fs) ∙ ap (λ (l : List Frame). received x ++ l) (none_received fs) ∙ append-nil (received x)

pub sent_behind : (x : List Step) (fs : List Frame) → sent (x ++ map Sent fs) ≡ sent x ++ fs
sent_behind x fs = sent_more x (map Sent fs) ∙ ap (λ (l : List Frame). sent x ++ l) (all_sent fs)

live_by : (begun over was : Bool) → (over ≡ false → was ≡ false) → (begun && not over) ≡ true → (begun && not was) ≡ true
live_by true true was k e = absurd cc
live_by true false was k e = ap not (k refl)
live_by false over was k e = absurd cc

open_by : (live ended was_live was : Bool) → (live ≡ true → was_live ≡ true) → (was ≡ true → ended ≡ true) → (live && not ended) ≡ true → (was_live && not was) ≡ true
open_by true true was_live was p q e = absurd cc
open_by true false was_live true p q e = absurd (false≢true (q refl))
open_by true false was_live false p q e = ap (λ (b : Bool). b && true) (p refl)
open_by false ended was_live was p q e = absurd cc

unless : (a b : Bool) → (a ≡ true → b ≡ true) → b ≡ false → a ≡ false
unless true b k e = absurd (false≢true (sym e ∙ k refl))
unless false b k e = refl

pub ended_still : (x : List Step) (fs : List Frame) (k : ℕ) → is_ended_by (sent x) k ≡ true → is_ended_by (sent (x ++ map Sent fs)) k ≡ true
ended_still x fs k e = ap (λ (l : List Frame). is_ended_by l k) (sent_behind x fs) ∙ ended_more (sent x) fs k e

-- on a stream that these frames do not begin
module _ (role : Role) (x : List Step) (fs : List Frame) (k : ℕ) (begun_is : is_begun role (x ++ map Sent fs) k ≡ is_begun role x k) where
  pub live_back : is_live role (x ++ map Sent fs) k ≡ true → is_live role x k ≡ true
  live_back e =
      ap (λ (b : Bool). b && not (is_over x k)) (sym begun_is)
      ∙ live_by (is_begun role (x ++ map Sent fs) k) (is_over (x ++ map Sent fs) k) (is_over x k) (unless (is_over x k) (is_over (x ++ map Sent fs) k) (over_stays x (map Sent fs) k)) e

  pub open_back : is_open role (x ++ map Sent fs) k ≡ true → is_open role x k ≡ true
  open_back e = open_by (is_live role (x ++ map Sent fs) k) (is_ended_by (sent (x ++ map Sent fs)) k) (is_live role x k) (is_ended_by (sent x) k) live_back (ended_still x fs k) e

pub room_falls : (x : List Step) (fs : List Frame) (k : ℕ) → may_send x k ≡ 0 → may_send (x ++ map Sent fs) k ≡ 0
room_falls x fs k e =
    let r = received_kept x fs in
    let one = ap (spent_on k) (sent_behind x fs) ∙ sum_by-append (λ (f : Frame). if stream_of f == k then counted f else 0) (sent x) fs in
    let all = ap spent (sent_behind x fs) ∙ sum_by-append counted (sent x) fs in
    omega (arith, e, ap initial_window r, ap (granted_on k) r, ap (granted_on 0) r, one, all)
