-- A connection that sends a header block in frames.
use Rattle.std.proofs.Common.{◌≡◌, ℕ, zero, suc, ◌+◌, ◌*◌, ◌<◌, ◌≤◌, ◌^◌, Bool, true, false, List, [], ◌∷◌, ◌++◌, length, take, drop, map, Option, Some, None, refl, sym, ap, subst, ◌∙◌, arith, All}
use Rattle.std.specs.Prelude.{not, replicate, ◌==◌, if◌then◌else◌}
use Rattle.std.proofs.lemmas.List.{append_assoc, length-drop, length-take, take-append-drop}
use Rattle.std.proofs.lemmas.List.Elements.{All-nil, All-cons, All-append}
use Rattle.h2_frames.specs.declared.frame.Frame.{Frame}
use Rattle.h2_frames.specs.declared.frame.Frame.TheVariants.{Headers, Continuation}
use Rattle.h2_frames.specs.declared.frame.FrameBody.{FrameBody}
use Rattle.h2_frames.specs.Layout.{frame_text}
use Rattle.hpack_tables.specs.declared.field.Field.{Field}
use Rattle.hpack_tables.specs.Writing.{Encoder, Writes, fresh}
use Rattle.h2_exchange.specs.declared.role.Role.{Role}
use Rattle.h2_exchange.specs.declared.role.Role.TheVariants.{Client, Server}
use Rattle.h2_exchange.specs.Blocks.{Block, completed, completed_by, left_open}
use Rattle.h2_exchange.specs.Compression.{IsWritable}
use Rattle.h2_exchange.specs.Content.{Outcome}
use Rattle.h2_exchange.specs.Exchange.{Step, Sent, sent}
use Rattle.h2_exchange.specs.Stops.{ends_call}
use Rattle.h2_exchange.specs.declared.limits.H2Limits.{H2Limits}
use Rattle.h2_streams.specs.declared.live.Stream.{Stream}
use Rattle.h2_streams.specs.Live.{replaced}
use Rattle.h2_streams.specs.Set.{Set, at, is_open_in, closed_local, dropped}
use Rattle.h2_streams.specs.Stands as streams
use Rattle.h2_streams.proofs.Lists.{self_eq}
use Rattle.h2_streams.proofs.SentBlocks.{header_frames_change_nothing, finishes}
use Rattle.h2_streams.proofs.SentFrames.{none_begins}
use Rattle.h2_streams.proofs.Standing.{open_says}
use Rattle.http_connection.specs.ConnectionTrace.{ConnectionTrace, style_of}
use Rattle.http_connection.specs.Sends.{last_flag, block_flags, CarryBlock}
use Rattle.h2_conn.specs.Blocks.{frames_text, finished_if, ends_by}
use Rattle.h2_conn.specs.State.{State}
use Rattle.h2_conn.specs.Standing.{HasCredit}
use Rattle.h2_conn.specs.Texts.{body}
use Rattle.h2_conn.specs.Watching.{ended_if}
use Rattle.h2_conn.proofs.Halves.{Mid, mid_push, headers_part, more_part}
use Rattle.h2_conn.proofs.Lives.{credited_push}
use Rattle.h2_conn.proofs.Written.{written_push, written_block}

-- ---- sets

pub record IsSame (s t : Set) : Type 0 where
  pub role : t.role ≡ s.role
  pub limits : t.limits ≡ s.limits

ended_same : (id : ℕ) (set : Set) (o : Option Stream) → IsSame set (closed_local id set o)
ended_same id set None = record { role = refl; limits = refl }
ended_same id set (Some stream) = by stream.is_closed_remote
  where
    by : (b : Bool) → IsSame set (if b then dropped id set else record set { live = replaced id (record stream { is_closed_local = true }) set.live })
    by true = record { role = refl; limits = refl }
    by false = record { role = refl; limits = refl }

pub finished_same : (last : Bool) (id : ℕ) (set : Set) → IsSame set (finished_if last id set)
finished_same false id set = record { role = refl; limits = refl }
finished_same true id set = ended_same id set (at id set)

-- ---- the frame that completes a block

-- a frame of a block that isn't completed ends no call
quiet_end : (limits : H2Limits) (heads : List Outcome) (role : Role) (x : List Step) (b : FrameBody) (o : Option Block) → completed (sent x) (Continuation b) ≡ None → ends_call limits heads role x (Sent (Continuation b)) ≡ false
quiet_end limits heads Server x b o e = refl
quiet_end limits heads Client x b o e = rw e refl

pub quiet_head : (limits : H2Limits) (heads : List Outcome) (role : Role) (x : List Step) (b : FrameBody) → completed (sent x) (Headers b) ≡ None → ends_call limits heads role x (Sent (Headers b)) ≡ false
quiet_head limits heads Server x b e = refl
quiet_head limits heads Client x b e = rw e refl

last_end : (limits : H2Limits) (heads : List Outcome) (role : Role) (x : List Step) (b : FrameBody) (k : Block) → completed (sent x) (Continuation b) ≡ Some k → ends_call limits heads role x (Sent (Continuation b)) ≡ ends_by role k.last
last_end limits heads Server x b k e = refl
last_end limits heads Client x b k e = rw e refl

pub last_head : (limits : H2Limits) (heads : List Outcome) (role : Role) (x : List Step) (b : FrameBody) (k : Block) → completed (sent x) (Headers b) ≡ Some k → ends_call limits heads role x (Sent (Headers b)) ≡ ends_by role k.last
last_head limits heads Server x b k e = refl
last_head limits heads Client x b k e = rw e refl

some_is : (a b : Block) → Some a ≡ Some b → a ≡ b
some_is a b e = cc

-- what the frame leaves of the streams
whole_set : (set : Set) (x : List Step) (b : FrameBody) (k : Block) (id : ℕ) (last : Bool) → streams.StandsFor set x → b.stream ≡ id → completed (sent x) (Continuation b) ≡ Some k → k.stream ≡ id → k.last ≡ last →
    (last ≡ true → is_open_in (at id set) ≡ true) → streams.StandsFor (finished_if last id set) (x ++ Sent (Continuation b) ∷ [])
whole_set set x b k id false h on e same is_last opens =
    header_frames_change_nothing set x (Continuation b) refl (λ t. absurd cc) (λ j t. ap (λ (i : Block). i.last) (some_is j k (sym t ∙ e)) ∙ is_last) h
whole_set set x b k id true h on e same is_last opens = finishes set x (Continuation b) id k h (sym (open_says set x id (is_open_in (at id set)) refl h) ∙ opens refl) refl on e same is_last

part_set : (set : Set) (x : List Step) (b : FrameBody) → streams.StandsFor set x → completed (sent x) (Continuation b) ≡ None → streams.StandsFor set (x ++ Sent (Continuation b) ∷ [])
part_set set x b h e = header_frames_change_nothing set x (Continuation b) refl (λ t. absurd cc) (λ j t. absurd (let n : None ≡ Some j = sym e ∙ t in cc)) h

goes_inside : (id stream : ℕ) → stream ≡ id → not (id == stream) ≡ false
goes_inside id stream e = ap not (ap (λ (k : ℕ). id == k) e ∙ self_eq id)

-- ---- CONTINUATION frames

pub record Conts (n : ℕ) (s : State) (c : ConnectionTrace) (next : Encoder) (last : Bool) (id : ℕ) (text : List ℕ) (fields : List Field) : Type 0 where
  pub others : List FrameBody
  pub flags_are : map (λ (b : FrameBody). b.flags) others ≡ replicate n 0 ++ 4 ∷ []
  pub streams_are : All (λ (b : FrameBody). b.stream ≡ id) others
  pub count : length others ≡ suc n
  pub mid : Mid (record s { output = s.output ++ frames_text n 9 0 id text; set = finished_if last id s.set; watch = ended_if (ends_by s.role last) s.watch })
      (record c { frames = c.frames ++ map Sent (map Continuation others); written = c.written ++ fields ∷ [] }) next None

all_more : (written : List (List Field)) (fields : List Field) → All IsWritable written → IsWritable fields → All IsWritable (written ++ fields ∷ [])
all_more written fields h w = All-append IsWritable written (fields ∷ []) h (All-cons IsWritable fields [] w (All-nil IsWritable))

cut_length : (n : ℕ) (text : List ℕ) → length text ≤ 16384 * (suc n + 1) → length (drop 16384 text) ≤ 16384 * (n + 1)
cut_length n text le = omega (arith, le, length-drop 16384 text)

pub take_small : (text : List ℕ) → length (take 16384 text) ≤ 16384
take_small text = omega (arith, length-take 16384 text)

pub conts_go : (n : ℕ) (s : State) (c : ConnectionTrace) (enc next : Encoder) (b : Block) (id : ℕ) (fits : id < 2 ^ 31) (text : List ℕ) (fields : List Field) → Mid s c enc (Some b) → b.stream ≡ id → length text ≤ 16384 * (n + 1) →
    Writes enc fields (b.text ++ text) next → IsWritable fields → (b.last ≡ true → is_open_in (at id s.set) ≡ true) → Conts n s c next b.last id text fields
conts_go zero s c enc next b id fits text fields h on le w writable opens =
    let small : length text ≤ 16384 = omega (arith, le) in
    let g = body 4 id text fits small in
    let f = Continuation g in
    let k : Block = record { stream = b.stream; last = b.last; text = b.text ++ text; frames = b.frames + 1 } in
    let e : completed (sent c.frames) f ≡ Some k = ap (λ (o : Option Block). completed_by o f) h.half.opened in
    let same = finished_same b.last id s.set in
    record {
      others = g ∷ [];
      flags_are = refl;
      streams_are = All-cons (λ (b : FrameBody). b.stream ≡ id) g [] refl (All-nil (λ (b : FrameBody). b.stream ≡ id));
      count = refl;
      mid = mid_push s c enc (Some b) h f (more_part g) (goes_inside id b.stream on) next (c.written ++ fields ∷ []) (written_block (fresh (style_of c.role)) [] c.frames f c.written enc next k fields h.half.spelled e w)
          (all_more c.written fields h.half.writable writable) (finished_if b.last id s.set) (ends_by s.role b.last) (whole_set s.set c.frames g k id b.last h.goes.set_is refl e on refl opens)
          (same.role ∙ h.goes.set_role) (same.limits ∙ h.goes.set_limits)
          (credited_push s.is_holding c.role c.limits c.frames f refl (λ i. none_begins c.role c.frames f i refl) h.credited)
          (last_end c.limits c.heads c.role c.frames g k e ∙ ap (λ (r : Role). ends_by r b.last) h.role_is);
    }
conts_go (suc n) s c enc next b id fits text fields h on le w writable opens =
    let g = body 0 id (take 16384 text) fits (take_small text) in
    let f = Continuation g in
    let k : Block = record { stream = b.stream; last = b.last; text = b.text ++ take 16384 text; frames = b.frames + 1 } in
    let e : completed (sent c.frames) f ≡ None = ap (λ (o : Option Block). completed_by o f) h.half.opened in
    let m : Mid (record s { output = s.output ++ frame_text f }) (record c { frames = c.frames ++ Sent f ∷ [] }) enc (Some k) =
    mid_push s c enc (Some b) h f (more_part g) (goes_inside id b.stream on) enc c.written (written_push (fresh (style_of c.role)) [] c.frames f c.written enc h.half.spelled e) h.half.writable
    s.set false (part_set s.set c.frames g h.goes.set_is e) h.goes.set_role h.goes.set_limits
    (credited_push s.is_holding c.role c.limits c.frames f refl (λ i. none_begins c.role c.frames f i refl) h.credited) (quiet_end c.limits c.heads c.role c.frames g None e) in
    let whole : b.text ++ text ≡ (b.text ++ take 16384 text) ++ drop 16384 text = ap (λ (t : List ℕ). b.text ++ t) (sym (take-append-drop 16384 text)) ∙ sym (append_assoc b.text (take 16384 text) (drop 16384 text)) in
    let r = conts_go n (record s { output = s.output ++ frame_text f }) (record c { frames = c.frames ++ Sent f ∷ [] }) enc next k id fits (drop 16384 text) fields m on (cut_length n text le)
    (subst (λ (t : List ℕ). Writes enc fields t next) whole w) writable opens in
    record {
      others = g ∷ r.others;
      flags_are = ap (λ (l : List ℕ). 0 ∷ l) r.flags_are;
      streams_are = All-cons (λ (b : FrameBody). b.stream ≡ id) g r.others refl r.streams_are;
      count = ap suc r.count;
      mid =
          subst (λ (x : List Step). Mid (record s { output = s.output ++ frames_text (suc n) 9 0 id text; set = finished_if b.last id s.set; watch = ended_if (ends_by s.role b.last) s.watch })
          (record c { frames = x; written = c.written ++ fields ∷ [] }) next None) (append_assoc c.frames (Sent f ∷ []) (map Sent (map Continuation r.others)))
          (subst (λ (out : List ℕ). Mid (record s { output = out; set = finished_if b.last id s.set; watch = ended_if (ends_by s.role b.last) s.watch })
          (record c { frames = (c.frames ++ Sent f ∷ []) ++ map Sent (map Continuation r.others); written = c.written ++ fields ∷ [] }) next None)
          (append_assoc s.output (frame_text f) (frames_text n 9 0 id (drop 16384 text))) r.mid);
    }

-- ---- HEADERS

abbrev pub first_body : (n : ℕ) (last : Bool) (id : ℕ) (text : List ℕ) → id < 2 ^ 31 → length text ≤ 16384 * (n + 1) → FrameBody
first_body zero last id text fits le = body (last_flag last + 4) id text fits (omega (arith, le))
first_body (suc n) last id text fits le = body (last_flag last) id (take 16384 text) fits (take_small text)

-- what HEADERS alone leave of the streams
abbrev pub first_set : ℕ → Bool → ℕ → Set → Set
first_set zero last id set = finished_if last id set
first_set (suc n) last id set = set

abbrev head_block : ℕ → Bool → List ℕ → Block
head_block id last text = record { stream = id; last = last; text = text; frames = 1 }

head_whole : (last : Bool) (id : ℕ) (text : List ℕ) (fits : id < 2 ^ 31) (small : length text ≤ 16384) → completed_by None (Headers (body (last_flag last + 4) id text fits small)) ≡ Some (head_block id last text)
head_whole true id text fits small = refl
head_whole false id text fits small = refl

head_closed : (last : Bool) (id : ℕ) (text : List ℕ) (fits : id < 2 ^ 31) (small : length text ≤ 16384) → left_open None (Headers (body (last_flag last + 4) id text fits small)) ≡ None
head_closed true id text fits small = refl
head_closed false id text fits small = refl

head_part : (last : Bool) (id : ℕ) (text : List ℕ) (fits : id < 2 ^ 31) (small : length text ≤ 16384) → completed_by None (Headers (body (last_flag last) id text fits small)) ≡ None
head_part true id text fits small = refl
head_part false id text fits small = refl

head_open : (last : Bool) (id : ℕ) (text : List ℕ) (fits : id < 2 ^ 31) (small : length text ≤ 16384) → left_open None (Headers (body (last_flag last) id text fits small)) ≡ Some (head_block id last text)
head_open true id text fits small = refl
head_open false id text fits small = refl

pub record Heads (n : ℕ) (s : State) (c : ConnectionTrace) (next : Encoder) (last : Bool) (id : ℕ) (text : List ℕ) (fields : List Field) (base : Set) : Type 0 where
  pub fs : List Frame
  pub carry : CarryBlock id last fs
  pub mid : Mid (record s { output = s.output ++ frames_text n 1 (last_flag last) id text; set = finished_if last id base; watch = ended_if (ends_by s.role last) s.watch })
      (record c { frames = c.frames ++ map Sent fs; written = c.written ++ fields ∷ [] }) next None

pub heads_go : (n : ℕ) (s : State) (c : ConnectionTrace) (enc next : Encoder) (last : Bool) (id : ℕ) (fits : id < 2 ^ 31) (text : List ℕ) (fields : List Field) (base : Set) (le : length text ≤ 16384 * (n + 1)) → Mid s c enc None →
    Writes enc fields text next → IsWritable fields → (last ≡ true → is_open_in (at id base) ≡ true) →
    streams.StandsFor (first_set n last id base) (c.frames ++ Sent (Headers (first_body n last id text fits le)) ∷ []) → base.role ≡ c.role → base.limits ≡ c.limits →
    HasCredit s.is_holding c.role c.limits (c.frames ++ Sent (Headers (first_body n last id text fits le)) ∷ []) → Heads n s c next last id text fields base
heads_go zero s c enc next last id fits text fields base le h w writable opens stands role limits credit =
    let g = first_body zero last id text fits le in
    let f = Headers g in
    let e : completed (sent c.frames) f ≡ Some (head_block id last text) = ap (λ (o : Option Block). completed_by o f) h.half.opened ∙ head_whole last id text fits (omega (arith, le)) in
    let same = finished_same last id base in
    record {
      fs = f ∷ [];
      carry = record { first = g; others = []; frames_are = refl; flags_are = refl; streams_are = All-cons (λ (b : FrameBody). b.stream ≡ id) g [] refl (All-nil (λ (b : FrameBody). b.stream ≡ id)) };
      mid = subst (λ (o : Option Block). Mid (record s { output = s.output ++ frames_text zero 1 (last_flag last) id text; set = finished_if last id base; watch = ended_if (ends_by s.role last) s.watch })
          (record c { frames = c.frames ++ Sent f ∷ []; written = c.written ++ fields ∷ [] }) next o) (head_closed last id text fits (omega (arith, le)))
          (mid_push s c enc None h f (headers_part g) refl next (c.written ++ fields ∷ []) (written_block (fresh (style_of c.role)) [] c.frames f c.written enc next (head_block id last text) fields h.half.spelled e w)
          (all_more c.written fields h.half.writable writable) (finished_if last id base) (ends_by s.role last) stands (same.role ∙ role) (same.limits ∙ limits) credit
          (last_head c.limits c.heads c.role c.frames g (head_block id last text) e ∙ ap (λ (r : Role). ends_by r last) h.role_is));
    }
heads_go (suc n) s c enc next last id fits text fields base le h w writable opens stands role limits credit =
    let g = first_body (suc n) last id text fits le in
    let f = Headers g in
    let k = head_block id last (take 16384 text) in
    let e : completed (sent c.frames) f ≡ None = ap (λ (o : Option Block). completed_by o f) h.half.opened ∙ head_part last id (take 16384 text) fits (take_small text) in
    let m : Mid (record s { output = s.output ++ frame_text f; set = base }) (record c { frames = c.frames ++ Sent f ∷ [] }) enc (Some k) =
    subst (λ (o : Option Block). Mid (record s { output = s.output ++ frame_text f; set = base }) (record c { frames = c.frames ++ Sent f ∷ [] }) enc o) (head_open last id (take 16384 text) fits (take_small text))
    (mid_push s c enc None h f (headers_part g) refl enc c.written (written_push (fresh (style_of c.role)) [] c.frames f c.written enc h.half.spelled e) h.half.writable
    base false stands role limits credit (quiet_head c.limits c.heads c.role c.frames g e)) in
    let r = conts_go n (record s { output = s.output ++ frame_text f; set = base }) (record c { frames = c.frames ++ Sent f ∷ [] }) enc next k id fits (drop 16384 text) fields m refl (cut_length n text le)
    (subst (λ (t : List ℕ). Writes enc fields t next) (sym (take-append-drop 16384 text)) w) writable opens in
    record {
      fs = f ∷ map Continuation r.others;
      carry = record {
        first = g;
        others = r.others;
        frames_are = refl;
        flags_are = ap (λ (l : List ℕ). last_flag last ∷ l) r.flags_are ∙ ap (block_flags last) (sym r.count);
        streams_are = All-cons (λ (b : FrameBody). b.stream ≡ id) g r.others refl r.streams_are;
      };
      mid =
          subst (λ (x : List Step). Mid (record s { output = s.output ++ frames_text (suc n) 1 (last_flag last) id text; set = finished_if last id base; watch = ended_if (ends_by s.role last) s.watch })
          (record c { frames = x; written = c.written ++ fields ∷ [] }) next None) (append_assoc c.frames (Sent f ∷ []) (map Sent (map Continuation r.others)))
          (subst (λ (out : List ℕ). Mid (record s { output = out; set = finished_if last id base; watch = ended_if (ends_by s.role last) s.watch })
          (record c { frames = (c.frames ++ Sent f ∷ []) ++ map Sent (map Continuation r.others); written = c.written ++ fields ∷ [] }) next None)
          (append_assoc s.output (frame_text f) (frames_text n 9 0 id (drop 16384 text))) r.mid);
    }
