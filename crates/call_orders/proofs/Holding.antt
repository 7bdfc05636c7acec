-- What holds of the call on a stream, by where it stands.
use Rattle.std.proofs.Common.{◌≡◌, ℕ, ◌==◌, Bool, true, false, ◌||◌, List, [], ◌∷◌, ◌++◌, Some, None, refl, sym, ap, ◌∙◌, subst, append-nil}
use Rattle.std.specs.Prelude.{not}
use Rattle.std.specs.List.{list_any}
use Rattle.std.proofs.lemmas.Bool.{eqb-true, or_parts, or_from, and_parts, both_ways}
use Rattle.std.proofs.lemmas.List.Folds.{list_any-append}
use Rattle.grpc_heads.specs.CallEnd.{CallEnd}
use Rattle.grpc_heads.specs.declared.head.Method.{Method}
use Rattle.h2_exchange.specs.Calls.{Call, Begun, Request, Finished, Dropped, Declined, stream_in, is_begun_call, is_in_place, ends_asking}
use Rattle.h2_exchange.specs.StreamParts.{Item}
use Rattle.table_model.specs.declared.reply.Reply.{Reply}
use Rattle.table_model.specs.Event.{Event}
use Rattle.call_answers.specs.declared.orders.Setting.{Setting}
use Rattle.call_orders.specs.Calls.{CallState, NotBegun, Modifies, Receives, Responds, Over, Action, Handles, Collects, Continues, stream_of, events_of, calls_of, without_leaves, after}
use Rattle.call_orders.specs.Actions.{IsAction, leave, calls_in, events_in}
use Rattle.call_orders.specs.Orders.{actions_on, begun_in, events_on, left_in}
use Rattle.call_orders.specs.Laws.{ends_by, is_finish_of, is_stray}
use Rattle.call_orders.proofs.Counts.{events_here, events_other, on_here, on_other}
use Rattle.call_orders.proofs.Doing.{Bears, each_one, begun_append, begun_nothing, left_append, left_nothing, stray_parts}
use Rattle.call_orders.proofs.Idle.{Idle, at_state, idles, over_stays}
use Rattle.call_orders.proofs.Open.{Parted, asks_late, is_finish, is_good, open_after, open_with, orders_own, parted, state_behind}

-- ---- what is usual

abbrev pub Placed : List (Call Method CallEnd) → Action → Type 0
Placed past (Handles call did cut) = is_in_place past call ≡ true
Placed past (Collects id did cut) = Unit {0}
Placed past (Continues id cut) = Unit {0}

-- each call stands in its place
unfoldable pub ArePlaced : List Action → Type 0
ArePlaced [] = Unit {0}
ArePlaced (a ∷ earlier) = Placed (calls_in earlier) a × ArePlaced earlier

pub placed_parts : (a : Action) (earlier : List Action) → ArePlaced (a ∷ earlier) → Placed (calls_in earlier) a × ArePlaced earlier
unfolding ArePlaced
placed_parts a earlier h = h

pub calls_more : (a : Action) (earlier : List Action) → calls_in (a ∷ earlier) ≡ calls_in earlier ++ calls_of a
unfolding calls_in
calls_more a earlier = refl

-- ---- what holds

pub record HoldsOpen (s : Setting) (actions : List Action) (id session : ℕ) (f : Bool) : Type 0 where
  pub begun : begun_in (events_on actions id) ≡ session ∷ []
  pub left : left_in (events_on actions id) ≡ []
  pub unended : list_any (ends_by s) (actions_on actions id) ≡ false
  pub finished : list_any (is_finish_of id) (calls_in actions) ≡ f

pub record HoldsUnbegun (actions : List Action) (id : ℕ) : Type 0 where
  pub none : actions_on actions id ≡ []
  pub unheard : list_any (λ c. stream_in c == id) (calls_in actions) ≡ false

pub record HoldsNone (actions : List Action) (id : ℕ) : Type 0 where
  pub begun : begun_in (events_on actions id) ≡ []
  pub left : left_in (events_on actions id) ≡ []

pub record HoldsOver (actions : List Action) (id : ℕ) : Type 0 where
  pub same : left_in (events_on actions id) ≡ begun_in (events_on actions id)

abbrev pub Holds : Setting → List Action → ℕ → CallState → Type 0
Holds s actions id NotBegun = HoldsUnbegun actions id
Holds s actions id (Modifies session f) = HoldsOpen s actions id session f
Holds s actions id (Receives method first is_more) = HoldsNone actions id
Holds s actions id (Responds waiting) = HoldsNone actions id
Holds s actions id Over = HoldsOver actions id

-- ---- lists of entries

pub begun_here : (a : Action) (earlier : List Action) (id : ℕ) → (stream_of a == id) ≡ true → begun_in (events_on (a ∷ earlier) id) ≡ begun_in (events_on earlier id) ++ begun_in (events_of a)
begun_here a earlier id e = ap begun_in (events_here a earlier id e) ∙ begun_append (events_on earlier id) (events_of a)

pub left_here : (a : Action) (earlier : List Action) (id : ℕ) → (stream_of a == id) ≡ true → left_in (events_on (a ∷ earlier) id) ≡ left_in (events_on earlier id) ++ left_in (events_of a)
left_here a earlier id e = ap left_in (events_here a earlier id e) ∙ left_append (events_on earlier id) (events_of a)

pub join : (a b c d : List ℕ) → a ≡ c → b ≡ d → a ++ b ≡ c ++ d
join a b c d e f = ap (λ (l : List ℕ). l ++ b) e ∙ ap (λ (l : List ℕ). c ++ l) f

pub unbegun_begun : (actions : List Action) (id : ℕ) → HoldsUnbegun actions id → begun_in (events_on actions id) ≡ []
unfolding events_in
unbegun_begun actions id h = ap (λ (l : List Action). begun_in (events_in l)) h.none

pub unbegun_left : (actions : List Action) (id : ℕ) → HoldsUnbegun actions id → left_in (events_on actions id) ≡ []
unfolding events_in
unbegun_left actions id h = ap (λ (l : List Action). left_in (events_in l)) h.none

-- ---- an action for another stream

other_call : (a : Action) (id : ℕ) → (stream_of a == id) ≡ false → list_any (λ c. stream_in c == id) (calls_of a) ≡ false
other_call (Handles call did cut) id e = or_from (stream_in call == id) false e refl
other_call (Collects stream did cut) id e = refl
other_call (Continues stream cut) id e = refl

pub finish_stream : (id : ℕ) (c : Call Method CallEnd) → (stream_in c == id) ≡ false → is_finish_of id c ≡ false
finish_stream id (Finished stream) e = e
finish_stream id (Begun stream method) e = refl
finish_stream id (Request stream m) e = refl
finish_stream id (Dropped stream) e = refl
finish_stream id (Declined stream answer) e = refl

pub other_finish : (a : Action) (id : ℕ) → (stream_of a == id) ≡ false → list_any (is_finish_of id) (calls_of a) ≡ false
other_finish (Handles call did cut) id e = or_from (is_finish_of id call) false (finish_stream id call e) refl
other_finish (Collects stream did cut) id e = refl
other_finish (Continues stream cut) id e = refl

pub any_more : (p : Call Method CallEnd → Bool) (a : Action) (earlier : List Action) → list_any p (calls_in (a ∷ earlier)) ≡ (list_any p (calls_in earlier) || list_any p (calls_of a))
any_more p a earlier = ap (list_any p) (calls_more a earlier) ∙ list_any-append p (calls_in earlier) (calls_of a)

or_nothing : (x y : Bool) → y ≡ false → (x || y) ≡ x
or_nothing true y e = refl
or_nothing false y e = e

none_other : (actions : List Action) (a : Action) (id : ℕ) → (stream_of a == id) ≡ false → HoldsNone actions id → HoldsNone (a ∷ actions) id
none_other actions a id e h = record {
  begun = ap begun_in (events_other a actions id e) ∙ h.begun;
  left = ap left_in (events_other a actions id e) ∙ h.left;
}

pub holds_other : (s : Setting) (earlier : List Action) (a : Action) (id : ℕ) (state : CallState) → (stream_of a == id) ≡ false → Holds s earlier id state → Holds s (a ∷ earlier) id state
holds_other s earlier a id NotBegun e h = record {
  none = on_other a earlier id e ∙ h.none;
  unheard = any_more (λ c. stream_in c == id) a earlier ∙ or_from (list_any (λ c. stream_in c == id) (calls_in earlier)) (list_any (λ c. stream_in c == id) (calls_of a)) h.unheard (other_call a id e);
}
holds_other s earlier a id (Modifies session f) e h = record {
  begun = ap begun_in (events_other a earlier id e) ∙ h.begun;
  left = ap left_in (events_other a earlier id e) ∙ h.left;
  unended = ap (list_any (ends_by s)) (on_other a earlier id e) ∙ h.unended;
  finished = any_more (is_finish_of id) a earlier ∙ (or_nothing (list_any (is_finish_of id) (calls_in earlier)) (list_any (is_finish_of id) (calls_of a)) (other_finish a id e) ∙ h.finished);
}
holds_other s earlier a id (Receives method first is_more) e h = none_other earlier a id e h
holds_other s earlier a id (Responds waiting) e h = none_other earlier a id e h
holds_other s earlier a id Over e h = record {
  same = ap left_in (events_other a earlier id e) ∙ (h.same ∙ sym (ap begun_in (events_other a earlier id e)));
}

-- ---- an action for a call without a session

holds_idle : (s : Setting) (actions : List Action) (id : ℕ) (state : CallState) → Idle state → HoldsNone actions id → Holds s actions id state
holds_idle s actions id NotBegun i h = absurd i
holds_idle s actions id (Modifies session f) i h = absurd i
holds_idle s actions id (Receives method first is_more) i h = h
holds_idle s actions id (Responds waiting) i h = h
holds_idle s actions id Over i h = record { same = h.left ∙ sym h.begun }

pub none_here : (earlier : List Action) (a : Action) (id : ℕ) → (stream_of a == id) ≡ true → begun_in (events_on earlier id) ≡ [] → left_in (events_on earlier id) ≡ []
    → begun_in (events_of a) ≡ [] → left_in (events_of a) ≡ [] → HoldsNone (a ∷ earlier) id
none_here earlier a id e begun left more_begun more_left = record {
  begun = begun_here a earlier id e ∙ join (begun_in (events_on earlier id)) (begun_in (events_of a)) [] [] begun more_begun;
  left = left_here a earlier id e ∙ join (left_in (events_on earlier id)) (left_in (events_of a)) [] [] left more_left;
}

pub idle_here : (s : Setting) (earlier : List Action) (a : Action) (id : ℕ) (state : CallState) (its : List (Item CallEnd)) → Idle state → (stream_of a == id) ≡ true
    → IsAction s (at_state state its) a → list_any is_stray (events_of a) ≡ false → HoldsNone earlier id → Holds s (a ∷ earlier) id (after s (at_state state its) a).state
idle_here s earlier a id state its i e act plain h =
    let k = idles s state its a i act plain in
    holds_idle s (a ∷ earlier) id (after s (at_state state its) a).state k.to_idle (none_here earlier a id e h.begun h.left k.begun k.left)

pub over_here : (s : Setting) (earlier : List Action) (a : Action) (id : ℕ) (its : List (Item CallEnd)) → (stream_of a == id) ≡ true
    → IsAction s (at_state Over its) a → list_any is_stray (events_of a) ≡ false → HoldsOver earlier id → Holds s (a ∷ earlier) id (after s (at_state Over its) a).state
over_here s earlier a id its e act plain h =
    let k = idles s Over its a tt act plain in
    let kept : HoldsOver (a ∷ earlier) id = record {
      same = left_here a earlier id e ∙ (join (left_in (events_on earlier id)) (left_in (events_of a)) (begun_in (events_on earlier id)) (begun_in (events_of a)) h.same (k.left ∙ sym k.begun)
          ∙ sym (begun_here a earlier id e));
    } in
    subst (Holds s (a ∷ earlier) id) (sym (over_stays s its a act)) kept

-- ---- an action for a Modify call that goes on

asking_finish : (id : ℕ) (c : Call Method CallEnd) → ends_asking id c ≡ false → is_finish_of id c ≡ false
asking_finish id (Finished stream) e = e
asking_finish id (Begun stream method) e = refl
asking_finish id (Request stream m) e = refl
asking_finish id (Dropped stream) e = refl
asking_finish id (Declined stream answer) e = refl

any_finish : (id : ℕ) (cs : List (Call Method CallEnd)) → list_any (ends_asking id) cs ≡ false → list_any (is_finish_of id) cs ≡ false
any_finish id [] e = refl
any_finish id (c ∷ cs) e = let r = or_parts (ends_asking id c) (list_any (ends_asking id) cs) e in or_from (is_finish_of id c) (list_any (is_finish_of id) cs) (asking_finish id c r.0) (any_finish id cs r.1)

not_so : (b : Bool) → not b ≡ true → b ≡ false
not_so true e = absurd cc
not_so false e = refl

-- a request stands before its client's end
pub not_late : (earlier : List Action) (a : Action) (f : Bool) → Placed (calls_in earlier) a → list_any (is_finish_of (stream_of a)) (calls_in earlier) ≡ f → asks_late f a ≡ false
not_late earlier (Handles (Request id m) did cut) true placed e =
    absurd (both_ways (list_any (is_finish_of id) (calls_in earlier))
    (any_finish id (calls_in earlier) (not_so (list_any (ends_asking id) (calls_in earlier)) (and_parts (list_any (is_begun_call id) (calls_in earlier)) (not (list_any (ends_asking id) (calls_in earlier))) placed).1)) e)
not_late earlier (Handles (Request id m) did cut) false placed e = refl
not_late earlier (Handles (Begun id method) did cut) true placed e = refl
not_late earlier (Handles (Begun id method) did cut) false placed e = refl
not_late earlier (Handles (Finished id) did cut) true placed e = refl
not_late earlier (Handles (Finished id) did cut) false placed e = refl
not_late earlier (Handles (Dropped id) did cut) true placed e = refl
not_late earlier (Handles (Dropped id) did cut) false placed e = refl
not_late earlier (Handles (Declined id answer) did cut) true placed e = refl
not_late earlier (Handles (Declined id answer) did cut) false placed e = refl
not_late earlier (Collects id did cut) true placed e = refl
not_late earlier (Collects id did cut) false placed e = refl
not_late earlier (Continues id cut) true placed e = refl
not_late earlier (Continues id cut) false placed e = refl

finish_is : (a : Action) (id : ℕ) → (stream_of a == id) ≡ true → list_any (is_finish_of id) (calls_of a) ≡ is_finish a
finish_is (Handles (Finished stream) did cut) id e = ap (λ (b : Bool). b || false) e
finish_is (Handles (Begun stream method) did cut) id e = refl
finish_is (Handles (Request stream m) did cut) id e = refl
finish_is (Handles (Dropped stream) did cut) id e = refl
finish_is (Handles (Declined stream answer) did cut) id e = refl
finish_is (Collects stream did cut) id e = refl
finish_is (Continues stream cut) id e = refl

pub any_is : (a b c d : Bool) → a ≡ c → b ≡ d → (a || b) ≡ (c || d)
any_is a b c d e f = ap (λ (x : Bool). x || b) e ∙ ap (λ (x : Bool). c || x) f

-- the entries of an action with the Leave, and without
pub with_leave : (session : ℕ) (said : Reply) (did : List Event) → did ≡ without_leaves did ++ leave session said ∷ [] → begun_in (without_leaves did) ≡ [] → list_any is_stray did ≡ false
    → (begun_in did ≡ []) × (left_in did ≡ session ∷ [])
with_leave session said did e work plain =
    let w = without_leaves did in
    let last = leave session said ∷ [] in
    let plain_last : list_any is_stray last ≡ false = (stray_parts w last (subst (λ (l : List Event). list_any is_stray l ≡ false) e plain)).1 in
    let last_begun : begun_in last ≡ [] = begun_nothing None last (each_one (λ (x : Event). Bears None x.command) (leave session said) (refl, refl)) plain_last in (
      ap begun_in e ∙ (begun_append w last ∙ join (begun_in w) (begun_in last) [] [] work last_begun),
      ap left_in e ∙ (left_append w last ∙ join (left_in w) (left_in last) [] (session ∷ []) (left_nothing did) refl),
    )

pub without_leave : (did last : List Event) → did ≡ without_leaves did ++ last → last ≡ [] → did ≡ without_leaves did
without_leave did last e f = e ∙ (ap (λ (l : List Event). without_leaves did ++ l) f ∙ append-nil (without_leaves did))

or_first : (a b : Bool) → (a || b) ≡ false → a ≡ false
or_first true b e = cc
or_first false b e = refl

goes_over : (s : Setting) (earlier : List Action) (a : Action) (id session : ℕ) (f : Bool) → (stream_of a == id) ≡ true → Parted session Over (events_of a)
    → begun_in (without_leaves (events_of a)) ≡ [] → list_any is_stray (events_of a) ≡ false → HoldsOpen s earlier id session f → HoldsOver (a ∷ earlier) id
goes_over s earlier a id session f e k work plain h =
    let did = events_of a in
    let said : Reply = k.leaves.0 in
    let did_is : did ≡ without_leaves did ++ leave session said ∷ [] = k.did_is ∙ ap (λ (l : List Event). without_leaves did ++ l) k.leaves.1 in
    let lists = with_leave session said did did_is work plain in
    record {
      same = left_here a earlier id e ∙ (join (left_in (events_on earlier id)) (left_in did) [] (session ∷ []) h.left lists.1
          ∙ sym (begun_here a earlier id e ∙ join (begun_in (events_on earlier id)) (begun_in did) (session ∷ []) [] h.begun lists.0));
    }

pub goes_on : (s : Setting) (earlier : List Action) (a : Action) (id session : ℕ) (f g : Bool) → (stream_of a == id) ≡ true → Parted session (Modifies session g) (events_of a) → ends_by s a ≡ false
    → (f || is_finish a) ≡ g → begun_in (without_leaves (events_of a)) ≡ [] → HoldsOpen s earlier id session f → HoldsOpen s (a ∷ earlier) id session g
goes_on s earlier a id session f g e k unended finished work h =
    let did = events_of a in
    let same : did ≡ without_leaves did = without_leave did k.last k.did_is k.leaves in
    record {
      begun = begun_here a earlier id e ∙ join (begun_in (events_on earlier id)) (begun_in did) (session ∷ []) [] h.begun (ap begun_in same ∙ work);
      left = left_here a earlier id e ∙ join (left_in (events_on earlier id)) (left_in did) [] [] h.left (ap left_in same ∙ left_nothing did);
      unended = ap (list_any (ends_by s)) (on_here a earlier id e) ∙ or_from (ends_by s a) (list_any (ends_by s) (actions_on earlier id)) unended h.unended;
      finished = any_more (is_finish_of id) a earlier ∙ (any_is (list_any (is_finish_of id) (calls_in earlier)) (list_any (is_finish_of id) (calls_of a)) f (is_finish a) h.finished (finish_is a id e) ∙ finished);
    }

goes_here : (s : Setting) (earlier : List Action) (a : Action) (id session : ℕ) (f b : Bool) (state : CallState) → (stream_of a == id) ≡ true
    → state ≡ state_behind session (f || is_finish a) b → (ends_by s a || is_good f a) ≡ b → Parted session state (events_of a)
    → begun_in (without_leaves (events_of a)) ≡ [] → list_any is_stray (events_of a) ≡ false → HoldsOpen s earlier id session f → Holds s (a ∷ earlier) id state
goes_here s earlier a id session f true state e is b_is k work plain h =
    subst (Holds s (a ∷ earlier) id) (sym is) (goes_over s earlier a id session f e (subst (λ (x : CallState). Parted session x (events_of a)) is k) work plain h)
goes_here s earlier a id session f false state e is b_is k work plain h =
    subst (Holds s (a ∷ earlier) id) (sym is)
    (goes_on s earlier a id session f (f || is_finish a) e (subst (λ (x : CallState). Parted session x (events_of a)) is k) (or_first (ends_by s a) (is_good f a) b_is) refl work h)

stream_eq : (a : Action) (id : ℕ) → (stream_of a == id) ≡ true → stream_of a ≡ id
stream_eq a id e = eqb-true (stream_of a) id e

-- the entries but for the Leave begin no session
pub open_work : (s : Setting) (session : ℕ) (f : Bool) (its : List (Item CallEnd)) (a : Action) → IsAction s (open_with session f its) a → list_any is_stray (events_of a) ≡ false → begun_in (without_leaves (events_of a)) ≡ []
open_work s session f its a act plain =
    let k = parted s session f its a act in
    begun_nothing (Some session) (without_leaves (events_of a)) (orders_own s session f its a act)
    (stray_parts (without_leaves (events_of a)) k.last (subst (λ (l : List Event). list_any is_stray l ≡ false) k.did_is plain)).0

pub open_here : (s : Setting) (earlier : List Action) (a : Action) (id session : ℕ) (f : Bool) (its : List (Item CallEnd)) → (stream_of a == id) ≡ true → Placed (calls_in earlier) a
    → IsAction s (open_with session f its) a → list_any is_stray (events_of a) ≡ false → HoldsOpen s earlier id session f → Holds s (a ∷ earlier) id (after s (open_with session f its) a).state
open_here s earlier a id session f its e placed act plain h =
    let late = not_late earlier a f placed (ap (λ (n : ℕ). list_any (is_finish_of n) (calls_in earlier)) (stream_eq a id e) ∙ h.finished) in
    goes_here s earlier a id session f (ends_by s a || is_good f a) (after s (open_with session f its) a).state e (open_after s session f its a act late) refl
    (parted s session f its a act) (open_work s session f its a act plain) plain h
