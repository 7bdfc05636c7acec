-- Heads and trailers on an open stream, and streams that are begun.
use Rattle.std.proofs.Common.{◌≡◌, ℕ, zero, suc, ◌+◌, ◌-◌, ◌*◌, ◌<◌, ◌≤◌, ◌^◌, Bool, true, false, ◌||◌, ◌&&◌, List, [], ◌∷◌, ◌++◌, length, take, sum_by, Option, Some, None, refl, sym, ap, subst, ◌∙◌, arith, inl, inr, ◌⊎◌}
use Rattle.std.specs.Prelude.{not, is_some, nat_lt, fold, Result, Ok, Err, OnOk, IfOk, ◌==◌, if◌then◌else◌}
use Rattle.std.specs.List.{list_any}
use Rattle.std.proofs.lemmas.Bool.{le-ltb}
use Rattle.std.proofs.lemmas.Bool.Decides.{nat_tests}
use Rattle.h2_frames.specs.declared.frame.Frame.{Frame}
use Rattle.h2_frames.specs.declared.frame.Frame.TheVariants.{Headers}
use Rattle.h2_frames.specs.declared.frame.FrameBody.{FrameBody}
use Rattle.hpack_tables.specs.declared.encoder.Style.TheVariants.{Plain}
use Rattle.hpack_tables.specs.declared.field.Field.{Field}
use Rattle.hpack_tables.specs.EntrySizes.{size_of, fitting}
use Rattle.hpack_tables.specs.Laws.{AreBytes}
use Rattle.hpack_tables.specs.Writing.{Encoder, fresh, limited}
use Rattle.h2_exchange.specs.declared.fault.SendFault.{SendFault}
use Rattle.h2_exchange.specs.declared.fault.SendFault.TheVariants.{NotOpen, IdsSpent, NoMemory}
use Rattle.h2_exchange.specs.declared.role.Role.{Role}
use Rattle.h2_exchange.specs.declared.role.Role.TheVariants.{Client, Server}
use Rattle.h2_exchange.specs.Blocks.{Block, completed, completed_by, open_block}
use Rattle.h2_exchange.specs.Compression.{AreWritten, IsWritten, limited_by}
use Rattle.h2_exchange.specs.Exchange.{Step, Received, Sent, sent, received}
use Rattle.h2_exchange.specs.Frames.{stream_of}
use Rattle.h2_exchange.specs.Streams.{begins, highest, is_begun, is_live, is_new, is_odd, is_open, is_over, is_ended_by, of_client}
use Rattle.h2_exchange.specs.Windows.{granted_on, spent_on, settings_in}
use Rattle.h2_exchange.proofs.Steps.{begun_within}
use Rattle.h2_streams.specs.Set.{Set, at, begun, is_open_in, next_id}
use Rattle.h2_streams.specs.Stands as streams
use Rattle.h2_streams.specs.declared.live.Stream.{Stream}
use Rattle.h2_streams.proofs.Begins.{begins_stream, highest_odd}
use Rattle.h2_streams.proofs.Lists.{eqb_is}
use Rattle.h2_streams.proofs.SentBlocks.{header_frames_change_nothing, finishes}
use Rattle.h2_streams.proofs.Standing.{open_says}
use Rattle.http_connection.specs.ConnectionTrace.{ConnectionTrace, Refusal, is_alive, style_of, wrote}
use Rattle.http_connection.specs.Sends.{BeginsWhere, CarryBlock, SendsWhere, text_room, last_flag}
use Rattle.h2_conn.specs.Blocks.{SendsBlock, BeginsBlock, with_block, with_end, closed_on, ends_by, more_frames}
use Rattle.h2_conn.specs.State.{State}
use Rattle.h2_conn.specs.Standing.{Stands, HasCredit}
use Rattle.h2_conn.specs.Steps.{SendsBy}
use Rattle.h2_conn.specs.Texts.{body}
use Rattle.h2_conn.proofs.Asking.{as_before, goes_on, live_small, may_send_on}
use Rattle.h2_conn.proofs.BlockFrames.{first_body, first_set, heads_go, take_small}
use Rattle.h2_conn.proofs.Ending.{closes_on}
use Rattle.h2_conn.proofs.Framing.{frame_bounds}
use Rattle.h2_conn.specs.Watching.{Watch, ended_if}
use Rattle.h2_conn.proofs.Halves.{begins_mid, ends_mid, credited_new}
use Rattle.h2_conn.proofs.Lives.{credited_push}

front_true : (a b : Bool) → (a && b) ≡ true → a ≡ true
front_true true b e = refl
front_true false b e = absurd cc

both_true : (a b : Bool) → (a && b) ≡ true → (a ≡ true) × (b ≡ true)
both_true true true e = (refl, refl)
both_true true false e = absurd cc
both_true false b e = absurd cc

not_true : (a : Bool) → not a ≡ true → a ≡ false
not_true true e = absurd cc
not_true false e = refl

-- ---- the style of an encoder

limited_style : (size : ℕ) (e : Encoder) → (limited size e).style ≡ e.style
limited_style size e = by (nat_lt size e.max)
  where
    by : (b : Bool) → (if b then record { style = e.style; entries = fitting size e.entries; max = size; is_lowered = true } else e).style ≡ e.style
    by true = refl
    by false = refl

limits_style : (settings : List (ℕ × ℕ)) (e : Encoder) → (fold (λ now s. if s.0 == 1 then limited s.1 now else now) e settings).style ≡ e.style
limits_style [] e = refl
limits_style (s ∷ settings) e = limits_style settings (if s.0 == 1 then limited s.1 e else e) ∙ by (s.0 == 1)
  where
    by : (b : Bool) → (if b then limited s.1 e else e).style ≡ e.style
    by true = limited_style s.1 e
    by false = refl

one_style : (e next : Encoder) (o : Option Block) (lists more : List (List Field)) → IsWritten e o lists more next → next.style ≡ e.style
one_style e next None lists more h = ap (λ (d : Encoder). d.style) h.1
one_style e next (Some b) lists more h = h.2.style_is

written_style : (e : Encoder) (past x : List Step) (lists : List (List Field)) (last : Encoder) → AreWritten e past x lists last → last.style ≡ e.style
written_style e past [] lists last h = ap (λ (d : Encoder). d.style) h.1
written_style e past (Received f ∷ x) lists last h = written_style (limited_by f e) (past ++ Received f ∷ []) x lists last h ∙ limits_style (settings_in f) e
written_style e past (Sent f ∷ x) lists last h = written_style h.1 (past ++ Sent f ∷ []) x h.0 last h.3 ∙ one_style e h.1 (completed (sent past) f) lists h.0 h.2

pub plain_style : (s : State) (c : ConnectionTrace) (dead : Bool) → is_some s.refusal ≡ dead → Stands s c → c.role ≡ Server → dead ≡ false → s.encoder.style ≡ Plain
plain_style s c dead d h server e =
    ap (λ (k : Encoder). k.style) (h.encoder_is (goes_on s.refusal (d ∙ e))) ∙ written_style (fresh (style_of c.role)) [] c.frames c.written h.last h.kept.spelled ∙ ap style_of server

-- ---- HEADERS on a stream that was begun

not_new : (past : List Frame) (b : FrameBody) (id : ℕ) → b.stream ≤ highest past → list_any (λ f. is_new past f && stream_of f == id) (Headers b ∷ []) ≡ false
not_new past b id le = rw (le-ltb (highest past) b.stream le) (by (is_odd b.stream))
  where
    by : (t : Bool) → ((t && false) && b.stream == id || false) ≡ false
    by true = refl
    by false = refl

begins_again : (role : Role) (x : List Step) (b : FrameBody) (id : ℕ) → is_begun role x b.stream ≡ true → begins role id x (Sent (Headers b)) ≡ false
begins_again Server x b id e = refl
begins_again Client x b id e = not_new (sent x) b id (begun_within Client x b.stream e)

open_begun : (role : Role) (x : List Step) (id : ℕ) → is_open role x id ≡ true → is_begun role x id ≡ true
open_begun role x id e = front_true (is_begun role x id) (not (is_over x id)) (front_true (is_live role x id) (not (is_ended_by (sent x) id)) e)

some_is : (a b : Block) → Some a ≡ Some b → a ≡ b
some_is a b e = cc

whole_head : (last : Bool) (id : ℕ) (text : List ℕ) (fits : id < 2 ^ 31) (small : length text ≤ 16384) → completed_by None (Headers (body (last_flag last + 4) id text fits small)) ≡ Some (record { stream = id; last = last; text = text; frames = 1 })
whole_head true id text fits small = refl
whole_head false id text fits small = refl

part_head : (last : Bool) (id : ℕ) (text : List ℕ) (fits : id < 2 ^ 31) (small : length text ≤ 16384) → completed_by None (Headers (body (last_flag last) id text fits small)) ≡ None
part_head true id text fits small = refl
part_head false id text fits small = refl

-- what HEADERS leave of the streams
opened_set : (n : ℕ) (set : Set) (x : List Step) (last : Bool) (id : ℕ) (text : List ℕ) (fits : id < 2 ^ 31) (le : length text ≤ 16384 * (n + 1)) → streams.StandsFor set x → open_block (sent x) ≡ None → is_open set.role x id ≡ true →
    streams.StandsFor (first_set n last id set) (x ++ Sent (Headers (first_body n last id text fits le)) ∷ [])
opened_set zero set x false id text fits le h closed live =
    let e : completed (sent x) (Headers (first_body zero false id text fits le)) ≡ Some (record { stream = id; last = false; text = text; frames = 1 }) =
    ap (λ (o : Option Block). completed_by o (Headers (first_body zero false id text fits le))) closed ∙ whole_head false id text fits (omega (arith, le)) in
    header_frames_change_nothing set x (Headers (first_body zero false id text fits le)) refl (λ t. inr (open_begun set.role x id live)) (λ j t. ap (λ (i : Block). i.last) (some_is j (record { stream = id; last = false; text = text; frames = 1 }) (sym t ∙ e))) h
opened_set zero set x true id text fits le h closed live =
    finishes set x (Headers (first_body zero true id text fits le)) id (record { stream = id; last = true; text = text; frames = 1 }) h live refl refl
    (ap (λ (o : Option Block). completed_by o (Headers (first_body zero true id text fits le))) closed ∙ whole_head true id text fits (omega (arith, le))) refl refl
opened_set (suc n) set x last id text fits le h closed live =
    let g = first_body (suc n) last id text fits le in
    let e : completed (sent x) (Headers g) ≡ None = ap (λ (o : Option Block). completed_by o (Headers g)) closed ∙ part_head last id (take 16384 text) fits (take_small text) in
    header_frames_change_nothing set x (Headers g) refl (λ t. inr (open_begun set.role x id live)) (λ j t. absurd (let u : None ≡ Some j = sym e ∙ t in cc)) h

stream_of_first : (n : ℕ) (last : Bool) (id : ℕ) (text : List ℕ) (fits : id < 2 ^ 31) (le : length text ≤ 16384 * (n + 1)) → (first_body n last id text fits le).stream ≡ id
stream_of_first zero last id text fits le = refl
stream_of_first (suc n) last id text fits le = refl

-- nothing was granted on a stream that was begun before and is begun again by no frame
same_credit : (holds : Bool) (c : ConnectionTrace) (b : FrameBody) → is_begun c.role c.frames b.stream ≡ true → HasCredit holds c.role c.limits c.frames → HasCredit holds c.role c.limits (c.frames ++ Sent (Headers b) ∷ [])
same_credit holds c b e h = credited_push holds c.role c.limits c.frames (Headers b) refl (λ id. begins_again c.role c.frames b id e) h

-- ---- heads and trailers

bounds : (fields : List Field) (text : List ℕ) → sum_by size_of fields ≤ 65536 → length text ≤ text_room fields → length text ≤ 16384 * (more_frames (length text) + 1)
bounds fields text size small = (frame_bounds (length text) (omega (arith, size, small))).0

pub sends_block : (s t : State) (c : ConnectionTrace) (id : ℕ) (last : Bool) (fields : List Field) → Stands s c → s.refusal ≡ None → is_open_in (at id s.set) ≡ true → AreBytes fields → sum_by size_of fields ≤ 65536 → SendsBlock s t id last fields →
    (fs : List Frame) × CarryBlock id last fs × Stands t (wrote fs (fields ∷ []) c)
sends_block s t c id last fields h alive open_in bytes size made =
    let a = h.goes alive in
    let w = made.written in
    let here : is_open s.set.role c.frames id ≡ true = sym (open_says s.set c.frames id (is_open_in (at id s.set)) refl a.set_is) ∙ open_in in
    let live : is_open c.role c.frames id ≡ true = ap (λ (r : Role). is_open r c.frames id) (sym a.set_role) ∙ here in
    let fits : id < 2 ^ 31 = live_small c.role c.frames id (front_true (is_live c.role c.frames id) (not (is_ended_by (sent c.frames) id)) live) in
    let n = more_frames (length w.text) in
    let le : length w.text ≤ 16384 * (n + 1) = bounds fields w.text size w.small in
    let g = first_body n last id w.text fits le in
    let begun_here : is_begun c.role c.frames g.stream ≡ true = ap (is_begun c.role c.frames) (stream_of_first n last id w.text fits le) ∙ open_begun c.role c.frames id live in
    let r = heads_go n s c s.encoder w.after last id fits w.text fields s.set le (begins_mid s c h alive) w.writes (bytes, size) (λ e. open_in)
    (opened_set n s.set c.frames last id w.text fits le a.set_is h.kept.closed here) a.set_role a.set_limits (same_credit s.is_holding c g begun_here (h.credited alive)) in
    let middle : Stands (with_end id last (with_block id last w.text w.after s)) (wrote r.fs (fields ∷ []) c) = ends_mid _ (wrote r.fs (fields ∷ []) c) w.after r.mid in
    let whole : t ≡ closed_on id last (with_end id last (with_block id last w.text w.after s)) = made.state ∙ ap (λ (m : State). closed_on id last (with_end id last m)) w.state in (
      r.fs,
      r.carry,
      as_before (closed_on id last (with_end id last (with_block id last w.text w.after s))) t (wrote r.fs (fields ∷ []) c) whole (closes_on (with_end id last (with_block id last w.text w.after s)) (wrote r.fs (fields ∷ []) c) id last middle),
    )

pub blocks : (s t : State) (c : ConnectionTrace) (id : ℕ) (last dead : Bool) (fields : List Field) (r : Result (Unit {0}) SendFault) → is_some s.refusal ≡ dead → OnOk r (SendsBlock s t id last fields) → OnOk r (AreBytes fields) → sum_by size_of fields ≤ 65536 →
    SendsBy (not dead && is_open_in (at id s.set)) r → Stands s c → OnOk r ((fs : List Frame) × CarryBlock id last fs × Stands t (wrote fs (fields ∷ []) c))
blocks s t c id last dead fields (Err fault) d e bytes size sends h = tt
blocks s t c id last dead fields (Ok x) d e bytes size sends h =
    let may = both_true (not dead) (is_open_in (at id s.set)) sends in
    sends_block s t c id last fields h (goes_on s.refusal (d ∙ not_true dead may.0)) may.1 bytes size e

pub block_where : (s : State) (c : ConnectionTrace) (k : ℕ) (dead : Bool) (r : Result (Unit {0}) SendFault) → is_some s.refusal ≡ dead → SendsBy (not dead && is_open_in (at k s.set)) r → Stands s c → SendsWhere (is_alive c && is_open c.role c.frames k) r
block_where s c k dead r d sends h = subst (λ (b : Bool). SendsWhere b r) (ap (λ (b : Bool). not b && is_open_in (at k s.set)) (sym d) ∙ may_send_on s c k h) sends

-- ---- streams that are begun

above : (n : ℕ) → n < next_id n
above n = by (n == 0) refl
  where
    by : (b : Bool) → (n == 0) ≡ b → n < (if b then 1 else n + 2)
    by true e = omega (arith, eqb_is n 0 e)
    by false e = omega arith

odd_by : (n : ℕ) → (n ≡ 0) ⊎ (is_odd n ≡ true) → is_odd (next_id n) ≡ true
odd_by n (inl z) = subst (λ (k : ℕ). is_odd (next_id k) ≡ true) (sym z) refl
odd_by n (inr o) = by (n == 0) refl
  where
    two_more : (m : ℕ) → is_odd m ≡ true → is_odd (m + 2) ≡ true
    two_more m e = grind (arith, nat_tests)

    by : (b : Bool) → (n == 0) ≡ b → is_odd (if b then 1 else n + 2) ≡ true
    by true e = refl
    by false e = two_more n o

untouched_credit : (window granted spent : ℕ) → 65536 ≤ window → window + granted - spent ≡ window → granted ≡ spent
untouched_credit window granted spent big e = omega (arith, big, e)

begun_set : (n : ℕ) (set : Set) (x : List Step) (id : ℕ) (text : List ℕ) (fits : id < 2 ^ 31) (le : length text ≤ 16384 * (n + 1)) → streams.StandsFor set x → set.role ≡ Client → id ≡ next_id set.highest →
    streams.StandsFor (first_set n false id (begun id set)) (x ++ Sent (Headers (first_body n false id text fits le)) ∷ [])
begun_set zero set x id text fits le h client e = begins_stream set x id (first_body zero false id text fits le) h client e refl refl
begun_set (suc n) set x id text fits le h client e = begins_stream set x id (first_body (suc n) false id text fits le) h client e refl refl

only_this : (role : Role) (x : List Step) (b : FrameBody) (k id : ℕ) → b.stream ≡ k → begins role id x (Sent (Headers b)) ≡ true → id ≡ k
only_this Server x b k id on e = absurd cc
only_this Client x b k id on e = by (is_new (sent x) (Headers b)) e
  where
    by : (t : Bool) → (t && b.stream == id || false) ≡ true → id ≡ k
    by true p = sym (eqb_is b.stream id (drop_false (b.stream == id) p)) ∙ on
      where
        drop_false : (u : Bool) → (u || false) ≡ true → u ≡ true
        drop_false true q = refl
        drop_false false q = absurd cc
    by false p = absurd cc

pub begins_block : (s t : State) (c : ConnectionTrace) (id : ℕ) (fields : List Field) → Stands s c → s.refusal ≡ None → c.role ≡ Client → id < 2 ^ 31 → AreBytes fields → sum_by size_of fields ≤ 65536 → BeginsBlock s t id fields →
    (fs : List Frame) × CarryBlock id false fs × Stands t (wrote fs (fields ∷ []) c)
begins_block s t c id fields h alive client fits bytes size made =
    let a = h.goes alive in
    let w = made.written in
    let n = more_frames (length w.text) in
    let le : length w.text ≤ 16384 * (n + 1) = bounds fields w.text size w.small in
    let g = first_body n false id w.text fits le in
    let own : s.set.role ≡ Client = a.set_role ∙ client in
    let odd : is_odd id ≡ true = ap is_odd made.next ∙ odd_by s.set.highest (subst (λ (k : ℕ). (k ≡ 0) ⊎ (is_odd k ≡ true)) (sym a.set_is.highest_is) (highest_odd (of_client s.set.role c.frames))) in
    let fresh_there = a.set_is.untouched id (subst (λ (k : ℕ). s.set.highest < k) (sym made.next) (above s.set.highest)) odd in
    let none : granted_on id (sent c.frames) ≡ spent_on id (received c.frames) = untouched_credit s.set.limits.window (granted_on id (sent c.frames)) (spent_on id (received c.frames)) s.set.limits.window_is_raised
    (ap (λ (stream : Stream). stream.receive) fresh_there.as_new) in
    let r = heads_go n s c s.encoder w.after false id fits w.text fields (begun id s.set) le (begins_mid s c h alive) w.writes (bytes, size) (λ e. absurd cc)
    (begun_set n s.set c.frames id w.text fits le a.set_is own made.next) a.set_role a.set_limits
    (credited_new c.role c.limits c.frames (Headers g) id refl (λ k e. only_this c.role c.frames g id k (stream_of_first n false id w.text fits le) e) none s.is_holding (h.credited alive)) in
    let stands : Stands (record (with_block id false w.text w.after s) { set = begun id s.set; watch = ended_if (ends_by s.role false) s.watch }) (wrote r.fs (fields ∷ []) c) = ends_mid _ (wrote r.fs (fields ∷ []) c) w.after r.mid in
    let quiet : ended_if (ends_by s.role false) s.watch ≡ s.watch = none_ended s.role s.watch in
    let whole : t ≡ record (with_block id false w.text w.after s) { set = begun id s.set } = made.state ∙ ap (λ (m : State). record m { set = begun id s.set }) w.state in (
      r.fs,
      r.carry,
      as_before (record (with_block id false w.text w.after s) { set = begun id s.set }) t (wrote r.fs (fields ∷ []) c) whole
          (subst (λ (watch : Watch). Stands (record (with_block id false w.text w.after s) { set = begun id s.set; watch = watch }) (wrote r.fs (fields ∷ []) c)) quiet stands),
    )
  where
    none_ended : (role : Role) (watch : Watch) → ended_if (ends_by role false) watch ≡ watch
    none_ended Client watch = refl
    none_ended Server watch = refl

pub begun_with : (s t : State) (c : ConnectionTrace) (fields : List Field) (r : Result ℕ SendFault) → IfOk r (λ id. BeginsBlock s t id fields) → IfOk r (λ id. id < 2 ^ 31) → IfOk r (λ id. AreBytes fields) → (dead : Bool) → is_some s.refusal ≡ dead → IfOk r (λ id. dead ≡ false) →
    sum_by size_of fields ≤ 65536 → c.role ≡ Client → Stands s c → IfOk r (λ id. (fs : List Frame) × CarryBlock id false fs × Stands t (wrote fs (fields ∷ []) c))
begun_with s t c fields (Err fault) made fits bytes dead d alive size client h = tt
begun_with s t c fields (Ok id) made fits bytes dead d alive size client h = begins_block s t c id fields h (goes_on s.refusal (d ∙ alive)) client fits bytes size made

below : (h id : ℕ) → id ≡ next_id h → id < 2 ^ 31 → h < 2147483647
below h id e small = by (h == 0) refl e
  where
    by : (b : Bool) → (h == 0) ≡ b → id ≡ (if b then 1 else h + 2) → h < 2147483647
    by true z q = omega (arith, eqb_is h 0 z)
    by false z q = omega (arith, small, q)

alive_by : (s : State) (c : ConnectionTrace) (dead : Bool) → is_some s.refusal ≡ dead → Stands s c → is_alive c ≡ not dead
alive_by s c dead d h = ap (λ (o : Option Refusal). not (is_some o)) h.refusal_is ∙ ap not d

highest_is : (s : State) (c : ConnectionTrace) → Stands s c → s.refusal ≡ None → c.role ≡ Client → s.set.highest ≡ highest (sent c.frames)
highest_is s c h alive client =
    let a = h.goes alive in
    a.set_is.highest_is ∙ ap (λ (r : Role). highest (of_client r c.frames)) (a.set_role ∙ client)

pub begins_where : (s t : State) (c : ConnectionTrace) (fields : List Field) (dead : Bool) (r : Result ℕ SendFault) → is_some s.refusal ≡ dead → IfOk r (λ id. BeginsBlock s t id fields) → IfOk r (λ id. id < 2 ^ 31) → IfOk r (λ id. dead ≡ false) →
    (r ≡ Err NotOpen → dead ≡ true) → (r ≡ Err IdsSpent → (dead ≡ false) × ((x : List Step) → streams.StandsFor s.set x → highest (sent x) ≡ 2147483647)) → c.role ≡ Client → Stands s c → BeginsWhere c r
begins_where s t c fields dead (Ok id) d made fits alive refused spent client h =
    let none = goes_on s.refusal (d ∙ alive) in
    let top = highest_is s c h none client in (
      alive_by s c dead d h ∙ ap not alive,
      subst (λ (n : ℕ). n < 2147483647) top (below s.set.highest id made.next fits),
      made.next ∙ ap next_id top,
    )
begins_where s t c fields dead (Err NotOpen) d made fits alive refused spent client h = alive_by s c dead d h ∙ ap not (refused refl)
begins_where s t c fields dead (Err IdsSpent) d made fits alive refused spent client h =
    let p = spent refl in
    let none = goes_on s.refusal (d ∙ p.0) in
    (alive_by s c dead d h ∙ ap not p.0, p.1 c.frames (h.goes none).set_is)
begins_where s t c fields dead (Err NoMemory) d made fits alive refused spent client h = tt
