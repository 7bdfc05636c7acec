-- Where a connection may send, and how its course goes on.
use Rattle.std.proofs.Common.{◌≡◌, ℕ, ◌<◌, ◌≤◌, ◌^◌, min, max, length, take, Bool, true, false, ◌&&◌, List, [], ◌∷◌, ◌++◌, Option, Some, None, refl, sym, ap, subst, ◌∙◌, arith}
use Rattle.std.specs.Prelude.{not, is_some, fold, Result, Ok, Err, OnOk, IfOk, ◌==◌, if◌then◌else◌}
use Rattle.std.proofs.lemmas.List.{append-nil, length-take-le}
use Rattle.h2_frames.specs.declared.code.ErrorCode.{ErrorCode}
use Rattle.h2_frames.specs.declared.frame.Frame.{Frame}
use Rattle.h2_frames.specs.declared.frame.Frame.TheVariants.{RstStream, Content}
use Rattle.h2_frames.specs.Layout.{body_of}
use Rattle.hpack_tables.specs.declared.field.Field.{Field}
use Rattle.h2_exchange.specs.declared.fault.SendFault.{SendFault}
use Rattle.h2_exchange.specs.declared.role.Role.{Role}
use Rattle.h2_exchange.specs.Exchange.{Step, Sent, sent}
use Rattle.h2_exchange.specs.Frames.{stream_of, is_headers}
use Rattle.h2_exchange.specs.Streams.{of_client, is_odd, is_begun, is_live, is_open, is_over, is_ended_by}
use Rattle.h2_exchange.proofs.Steps.{begun_within}
use Rattle.h2_streams.proofs.Standing.{live_says, open_says, room_says}
use Rattle.h2_streams.proofs.Lists.{eqb_is}
use Rattle.h2_streams.specs.Set.{at, is_open_in, room_of}
use Rattle.http_connection.specs.ConnectionTrace.{ConnectionTrace, Refusal, is_alive, wrote}
use Rattle.http_connection.specs.Sends.{CarryReset, CarryBytes, CarryPiece, SendsWhere}
use Rattle.h2_exchange.specs.Windows.{placed_of}
use Rattle.h2_conn.specs.declared.conn.Why.{Why}
use Rattle.h2_conn.specs.declared.conn.Why.TheVariants as was
use Rattle.h2_conn.specs.State.{State, refusal_by}
use Rattle.h2_conn.specs.Standing.{Stands}
use Rattle.h2_conn.specs.Steps.{with_reset, with_data, with_part, placed_in, SendsBy}
use Rattle.h2_conn.proofs.Resetting.{reset_goes, reset_body}
use Rattle.h2_conn.proofs.Sounds.{one_more}
use Rattle.h2_conn.proofs.Sent.{data_goes, data_body}

-- ---- ids

greater : (fs : List Frame) (most : ℕ) → most < 2 ^ 31 → fold (λ most f. if is_headers f && is_odd (stream_of f) then max most (stream_of f) else most) most fs < 2 ^ 31
greater [] most small = small
greater (f ∷ fs) most small = greater fs (if is_headers f && is_odd (stream_of f) then max most (stream_of f) else most) (by (is_headers f && is_odd (stream_of f)))
  where
    by : (b : Bool) → (if b then max most (stream_of f) else most) < 2 ^ 31
    by true = omega (arith, small, (body_of f).stream_in_range)
    by false = small

front_true : (a b : Bool) → (a && b) ≡ true → a ≡ true
front_true true b e = refl
front_true false b e = absurd cc

pub live_small : (role : Role) (x : List Step) (k : ℕ) → is_live role x k ≡ true → k < 2 ^ 31
live_small role x k e = omega (arith, begun_within role x k (front_true (is_begun role x k) (not (is_over x k)) e), greater (of_client role x) 0 (omega arith))

-- ---- the course

pub wrote_one : (t : State) (c : ConnectionTrace) (f : Frame) → Stands t (one_more f c) → Stands t (wrote (f ∷ []) [] c)
wrote_one t c f h = subst (λ (w : List (List Field)). Stands t (record c { frames = c.frames ++ Sent f ∷ []; written = w })) (sym (append-nil c.written)) h

pub wrote_none : (t : State) (c : ConnectionTrace) → Stands t c → Stands t (wrote [] [] c)
wrote_none t c h =
    subst (λ (x : List Step). Stands t (record c { frames = x; written = c.written ++ [] })) (sym (append-nil c.frames))
    (subst (λ (w : List (List Field)). Stands t (record c { written = w })) (sym (append-nil c.written)) h)

pub as_before : (s t : State) (c : ConnectionTrace) → t ≡ s → Stands s c → Stands t c
as_before s t c e h = subst (λ (u : State). Stands u c) (sym e) h

-- ---- where it may send

pub some_why : (w : Option Why) → is_some (refusal_by w) ≡ is_some w
some_why None = refl
some_why (Some (was.Broken why place)) = refl
some_why (Some (was.Calm cause)) = refl
some_why (Some was.NoMemory) = refl

pub goes_on : (o : Option Refusal) → is_some o ≡ false → o ≡ None
goes_on None e = refl
goes_on (Some why) e = absurd cc

same_if : (dead here there : Bool) → (dead ≡ false → here ≡ there) → (not dead && here) ≡ (not dead && there)
same_if true here there e = refl
same_if false here there e = e refl

pub may_cut : (s : State) (c : ConnectionTrace) (k : ℕ) → Stands s c → (not (is_some s.refusal) && is_some (at k s.set)) ≡ (is_alive c && is_live c.role c.frames k)
may_cut s c k h =
    same_if (is_some s.refusal) (is_some (at k s.set)) (is_live c.role c.frames k)
    (λ none. let a = h.goes (goes_on s.refusal none) in live_says s.set c.frames k (is_some (at k s.set)) refl a.set_is ∙ ap (λ (r : Role). is_live r c.frames k) a.set_role)
    ∙ ap (λ (o : Option Refusal). not (is_some o) && is_live c.role c.frames k) (sym h.refusal_is)

pub may_send_on : (s : State) (c : ConnectionTrace) (k : ℕ) → Stands s c → (not (is_some s.refusal) && is_open_in (at k s.set)) ≡ (is_alive c && is_open c.role c.frames k)
may_send_on s c k h =
    same_if (is_some s.refusal) (is_open_in (at k s.set)) (is_open c.role c.frames k)
    (λ none. let a = h.goes (goes_on s.refusal none) in open_says s.set c.frames k (is_open_in (at k s.set)) refl a.set_is ∙ ap (λ (r : Role). is_open r c.frames k) a.set_role)
    ∙ ap (λ (o : Option Refusal). not (is_some o) && is_open c.role c.frames k) (sym h.refusal_is)

both_true : (a b : Bool) → (a && b) ≡ true → (a ≡ true) × (b ≡ true)
both_true true true e = (refl, refl)
both_true true false e = absurd cc
both_true false b e = absurd cc

not_true : (a : Bool) → not a ≡ true → a ≡ false
not_true true e = absurd cc
not_true false e = refl

-- ---- resets

pub cuts : {A : Type 0} (s t : State) (c : ConnectionTrace) (k : ℕ) (why : ErrorCode) (dead : Bool) (r : Result A SendFault) → is_some s.refusal ≡ dead → OnOk r (t ≡ with_reset k why s) → SendsBy (not dead && is_some (at k s.set)) r → Stands s c →
    OnOk r ((fs : List Frame) × CarryReset k why fs × Stands t (wrote fs [] c))
cuts s t c k why dead (Err fault) d e sends h = tt
cuts s t c k why dead (Ok x) d e sends h =
    let may = both_true (not dead) (is_some (at k s.set)) sends in
    let none = goes_on s.refusal (d ∙ not_true dead may.0) in
    let a = h.goes none in
    let live : is_live c.role c.frames k ≡ true = ap (λ (r : Role). is_live r c.frames k) (sym a.set_role) ∙ sym (live_says s.set c.frames k (is_some (at k s.set)) refl a.set_is) ∙ may.1 in
    let small = live_small c.role c.frames k live in
    let f = RstStream (reset_body k why small) in (
      f ∷ [],
      (reset_body k why small, refl, record { flags_are = refl; stream_is = refl; payload_is = refl }),
      as_before (with_reset k why s) t (wrote (f ∷ []) [] c) e (wrote_one (with_reset k why s) c f (reset_goes s c k why small h none live)),
    )

pub cut_where : {A : Type 0} (s : State) (c : ConnectionTrace) (k : ℕ) (dead : Bool) (r : Result A SendFault) → is_some s.refusal ≡ dead → SendsBy (not dead && is_some (at k s.set)) r → Stands s c → SendsWhere (is_alive c && is_live c.role c.frames k) r
cut_where s c k dead r d sends h = subst (λ (b : Bool). SendsWhere b r) (ap (λ (b : Bool). not b && is_some (at k s.set)) (sym d) ∙ may_cut s c k h) sends

-- ---- data

one_part : (id : ℕ) (part : List ℕ) (fits : id < 2 ^ 31) (small : length part ≤ 16384) (ends : Bool) → (part ≡ [] → ends ≡ true) → CarryBytes id ends part (Content (data_body id part ends fits small) ∷ [])
one_part id [] fits small false some = absurd (let e : false ≡ true = some refl in cc)
one_part id [] fits small true some = (data_body id [] true fits small, refl, record { flags_are = refl; stream_is = refl; payload_is = refl })
one_part id (b ∷ part) fits small false some = (data_body id (b ∷ part) false fits small, refl, record { flags_are = refl; stream_is = refl; payload_is = refl })
one_part id (b ∷ part) fits small true some = (data_body id (b ∷ part) true fits small, refl, record { flags_are = refl; stream_is = refl; payload_is = refl })

open_live : (role : Role) (x : List Step) (k : ℕ) → is_open role x k ≡ true → is_live role x k ≡ true
open_live role x k e = front_true (is_live role x k) (not (is_ended_by (sent x) k)) e

nothing : (piece : List ℕ) → length piece ≡ 0 → piece ≡ []
nothing [] e = refl
nothing (b ∷ piece) e = absurd (omega (arith, e))

-- one frame or none, where so many bytes of a piece are placed
by_part : (s : State) (c : ConnectionTrace) (id : ℕ) (piece : List ℕ) (ends : Bool) (n : ℕ) (none : Bool) → (n == 0 && not ends) ≡ none → n ≤ length piece → n ≤ 16384 → Stands s c → s.refusal ≡ None → is_open c.role c.frames id ≡ true →
    n ≤ room_of s.set (at id s.set) → (fs : List Frame) × CarryBytes id ends (take n piece) fs × Stands (if none then s else with_data id (take n piece) ends s) (wrote fs [] c)
by_part s c id piece ends n true e le small h none live room =
    let both = both_true (n == 0) (not ends) e in
    let zero_bytes : take n piece ≡ [] = ap (λ (m : ℕ). take m piece) (eqb_is n 0 both.0) in
    ([], quiet ends (take n piece) zero_bytes (not_true ends both.1), wrote_none s c h)
  where
    quiet : (b : Bool) (part : List ℕ) → part ≡ [] → b ≡ false → CarryBytes id b part []
    quiet true part p q = absurd cc
    quiet false [] p q = refl
    quiet false (a ∷ part) p q = absurd cc
by_part s c id piece ends n false e le small h none live room =
    let long : length (take n piece) ≡ n = length-take-le n piece le in
    let fits = live_small c.role c.frames id (open_live c.role c.frames id live) in
    let few : length (take n piece) ≤ 16384 = omega (arith, long, small) in
    let f = Content (data_body id (take n piece) ends fits few) in (
      f ∷ [],
      one_part id (take n piece) fits few ends (λ p. ended ends (ap length p) long e),
      wrote_one (with_data id (take n piece) ends s) c f (data_goes s c id (take n piece) ends fits few h none live (omega (arith, long, room))),
    )
  where
    ended : (b : Bool) → length (take n piece) ≡ 0 → length (take n piece) ≡ n → (n == 0 && not b) ≡ false → b ≡ true
    ended true p q r = refl
    ended false p q r = let z : (n == 0) ≡ true = ap (λ (m : ℕ). m == 0) (sym q ∙ p) in absurd (let t : (n == 0 && true) ≡ true = ap (λ (a : Bool). a && true) z in cc)

pub places : (s t : State) (c : ConnectionTrace) (k : ℕ) (piece : List ℕ) (last dead : Bool) (r : Result ℕ SendFault) → is_some s.refusal ≡ dead →
    IfOk r (λ n. (n ≡ placed_in k piece s) × (t ≡ with_part k piece (last && n == length piece) n s)) → SendsBy (not dead && is_open_in (at k s.set)) r → Stands s c →
    IfOk r (λ n. (n ≡ placed_of c.frames k piece) × (fs : List Frame) × CarryPiece k piece last n fs × Stands t (wrote fs [] c))
places s t c k piece last dead (Err fault) d e sends h = tt
places s t c k piece last dead (Ok n) d e sends h =
    let may = both_true (not dead) (is_open_in (at k s.set)) sends in
    let none = goes_on s.refusal (d ∙ not_true dead may.0) in
    let a = h.goes none in
    let live : is_open c.role c.frames k ≡ true = ap (λ (r : Role). is_open r c.frames k) (sym a.set_role) ∙ sym (open_says s.set c.frames k (is_open_in (at k s.set)) refl a.set_is) ∙ may.1 in
    let here : is_open s.set.role c.frames k ≡ true = ap (λ (r : Role). is_open r c.frames k) a.set_role ∙ live in
    let placed : n ≡ placed_of c.frames k piece = e.0 ∙ ap (λ (m : ℕ). min (min (length piece) m) 16384) (room_says s.set c.frames k (room_of s.set (at k s.set)) refl a.set_is here) in
    let p = by_part s c k piece (last && n == length piece) n (n == 0 && not (last && n == length piece)) refl (omega (arith, e.0)) (omega (arith, e.0)) h none live (omega (arith, e.0)) in
    (placed, p.0, p.1, as_before (with_part k piece (last && n == length piece) n s) t (wrote p.0 [] c) e.1 p.2)

pub place_where : {A : Type 0} (s : State) (c : ConnectionTrace) (k : ℕ) (dead : Bool) (r : Result A SendFault) → is_some s.refusal ≡ dead → SendsBy (not dead && is_open_in (at k s.set)) r → Stands s c → SendsWhere (is_alive c && is_open c.role c.frames k) r
place_where s c k dead r d sends h = subst (λ (b : Bool). SendsWhere b r) (ap (λ (b : Bool). not b && is_open_in (at k s.set)) (sym d) ∙ may_send_on s c k h) sends
