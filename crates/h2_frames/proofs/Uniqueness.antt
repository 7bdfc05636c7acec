-- Bytes have one list of frames.
use Rattle.std.proofs.Common.{◌≡◌, ℕ, ◌+◌, ◌*◌, ◌%◌, ◌^◌, ◌<◌, ◌≤◌, ◌⊎◌, List, [], ◌∷◌, ◌++◌, length, get_or, take, drop, refl, sym, ap, subst, inl, inr, ◌∙◌, arith}
use Rattle.std.specs.Int.{w32, from_be_bytes, to_be_bytes}
use Rattle.std.specs.List.{flat_map}
use Rattle.std.specs.Coded.{le_prop}
use Rattle.std.proofs.lemmas.List.{take-take, drop-take, get_or-take, length-append, take_at, drop_at, take_all, append_assoc}
use Rattle.std.proofs.lemmas.Nat.{from_be_bytes-to_be_bytes_4}
use Rattle.h2_frames.specs.declared.code.ErrorCode.{ErrorCode}
use Rattle.h2_frames.specs.declared.frame.Frame.{Frame}
use Rattle.h2_frames.specs.declared.frame.Frame.TheVariants.{Content, Headers, Priority, RstStream, Settings, PushPromise, Ping, GoAway, WindowUpdate, Continuation, Unknown}
use Rattle.h2_frames.specs.declared.frame.FrameBody.{FrameBody}
use Rattle.h2_frames.specs.declared.frame.OtherType.{OtherType}
use Rattle.h2_frames.specs.Layout.{type_of, body_of, text_of, frame_text, IsFrame, size_of, said_length, said_word, IsPartial, IsTooLong}
use Rattle.h2_frames.specs.Stream.{Reads, Frames, place_after}
use Rattle.h2_frames.specs.Laws.{Ending, Waiting, Broken, Reading}

-- ---- a frame is its type and its body

abbrev body_made : (flags stream : ℕ) (payload : List ℕ) → stream < 2 ^ 31 → length payload ≤ 16384 → FrameBody
body_made flags stream payload s p = record { flags = flags; stream = stream; payload = payload; stream_in_range = s; payload_in_range = p }

lt_prop : (m n : ℕ) → IsProp (m < n)
lt_prop m n = le_prop

same_made : (f g s t : ℕ) (p q : List ℕ) → f ≡ g → s ≡ t → p ≡ q → (a : s < 2 ^ 31) (b : t < 2 ^ 31) (c : length p ≤ 16384) (d : length q ≤ 16384) → body_made f s p a c ≡ body_made g t q b d
same_made f g s t p q e h k a b c d =
    subst (λ (x : ℕ). body_made f s p a c ≡ body_made x t q b d) e
    (subst (λ (x : ℕ). (y : x < 2 ^ 31) → body_made f s p a c ≡ body_made f x q y d) h
    (λ y. subst (λ (x : List ℕ). (z : length x ≤ 16384) → body_made f s p a c ≡ body_made f s x y z) k
    (λ z. ap (λ (w : s < 2 ^ 31). body_made f s p w c) (lt_prop s (2 ^ 31) a y) ∙ ap (λ (w : length p ≤ 16384). body_made f s p y w) (le_prop c z)) d) b)

same_body : (a b : FrameBody) → a.flags ≡ b.flags → a.stream ≡ b.stream → a.payload ≡ b.payload → a ≡ b
same_body a b f s p = same_made a.flags b.flags a.stream b.stream a.payload b.payload f s p a.stream_in_range b.stream_in_range a.payload_in_range b.payload_in_range

abbrev other_made : (number : ℕ) → 9 < number → OtherType
other_made number above = record { number = number; is_other = above }

same_other : (a b : OtherType) → a.number ≡ b.number → a ≡ b
same_other a b e =
    (subst (λ (x : ℕ). (y : 9 < x) → other_made a.number a.is_other ≡ other_made x y) e (λ y. ap (λ (w : 9 < a.number). other_made a.number w) (lt_prop 9 a.number a.is_other y))) b.is_other

-- frames of one type with one body are the same
same_frame : (f g : Frame) → type_of f ≡ type_of g → body_of f ≡ body_of g → f ≡ g
same_frame (Content b) (Content c) e h = ap Content h
same_frame (Headers b) (Headers c) e h = ap Headers h
same_frame (Priority b) (Priority c) e h = ap Priority h
same_frame (RstStream b) (RstStream c) e h = ap RstStream h
same_frame (Settings b) (Settings c) e h = ap Settings h
same_frame (PushPromise b) (PushPromise c) e h = ap PushPromise h
same_frame (Ping b) (Ping c) e h = ap Ping h
same_frame (GoAway b) (GoAway c) e h = ap GoAway h
same_frame (WindowUpdate b) (WindowUpdate c) e h = ap WindowUpdate h
same_frame (Continuation b) (Continuation c) e h = ap Continuation h
same_frame (Unknown o b) (Unknown p c) e h = ap (λ (x : OtherType). Unknown x b) (same_other o p e) ∙ ap (Unknown p) h
same_frame (Unknown o b) g e h = let above : 9 < o.number = o.is_other in absurd (omega (arith, above, e))
same_frame f (Unknown p c) e h = let above : 9 < p.number = p.is_other in absurd (omega (arith, above, e))
same_frame f g e h = absurd (omega (arith, e))

-- ---- what the bytes say of a frame that stands in front

up_length : (n : ℕ) → n ≤ 16384 → from_be_bytes w32 (0 ∷ drop 1 (to_be_bytes w32 n)) ≡ n
up_length n le = omega arith

word_small : (r s : ℕ) → r < 2 → s < 2 ^ 31 → r * 2 ^ 31 + s < 2 ^ 32
word_small r s p q = omega arith

pub record NextFrame (bytes : List ℕ) (f : Frame) : Type 0 where
  pub length_is : said_length bytes ≡ length (body_of f).payload
  pub number_is : get_or bytes 3 0 ≡ type_of f
  pub flags_is : get_or bytes 4 0 ≡ (body_of f).flags
  pub stream_is : said_word bytes % 2 ^ 31 ≡ (body_of f).stream
  pub payload_is : take (said_length bytes) (drop 9 bytes) ≡ (body_of f).payload

-- bytes that are a frame's text say the frame
text_says : (number flags reserved stream : ℕ) (payload front : List ℕ) → length payload ≤ 16384 → reserved < 2 → stream < 2 ^ 31 → front ≡ text_of number flags (reserved * 2 ^ 31 + stream) payload →
    (said_length front ≡ length payload) × (get_or front 3 0 ≡ number) × (get_or front 4 0 ≡ flags) × (said_word front % 2 ^ 31 ≡ stream) × (drop 9 front ≡ payload)
text_says number flags reserved stream payload front short two small e = (
  ap (λ (x : List ℕ). from_be_bytes w32 (0 ∷ take 3 x)) e ∙ up_length (length payload) short,
  ap (λ (x : List ℕ). get_or x 3 0) e,
  ap (λ (x : List ℕ). get_or x 4 0) e,
  ap (λ (x : List ℕ). from_be_bytes w32 (take 4 (drop 5 x)) % 2 ^ 31) e
      ∙ ap (λ (n : ℕ). n % 2 ^ 31) (from_be_bytes-to_be_bytes_4 (reserved * 2 ^ 31 + stream) (word_small reserved stream two small)) ∙ low reserved stream small,
  ap (drop 9) e,
)
  where
    low : (r s : ℕ) → s < 2 ^ 31 → (r * 2 ^ 31 + s) % 2 ^ 31 ≡ s
    low r s lt = omega arith

says_of : (bytes : List ℕ) (f : Frame) → size_of f ≤ length bytes → IsFrame (take (size_of f) bytes) f → NextFrame bytes f
says_of bytes f le is =
    let n = length (body_of f).payload in
    let front = take (size_of f) bytes in
    let t = text_says (type_of f) (body_of f).flags is.0 (body_of f).stream (body_of f).payload front (body_of f).payload_in_range is.1 (body_of f).stream_in_range is.2 in
    let same3 : take 3 front ≡ take 3 bytes = take-take 3 (9 + n) bytes (omega arith) in
    let same4 : take 4 (drop 5 front) ≡ take 4 (drop 5 bytes) = ap (λ (k : ℕ). take 4 (drop 5 (take k bytes))) (split n) ∙ ap (take 4) (drop-take 5 (4 + n) bytes) ∙ take-take 4 (4 + n) (drop 5 bytes) (omega arith) in
    let said : said_length bytes ≡ n = ap (λ (x : List ℕ). from_be_bytes w32 (0 ∷ x)) (sym same3) ∙ t.0 in
    record {
      length_is = said;
      number_is = sym (get_or-take (9 + n) bytes 3 0 (omega arith)) ∙ t.1;
      flags_is = sym (get_or-take (9 + n) bytes 4 0 (omega arith)) ∙ t.2;
      stream_is = ap (λ (x : List ℕ). from_be_bytes w32 x % 2 ^ 31) (sym same4) ∙ t.3;
      payload_is = ap (λ (k : ℕ). take k (drop 9 bytes)) said ∙ sym (drop-take 9 n bytes) ∙ t.4;
    }
  where
    split : (n : ℕ) → 9 + n ≡ 5 + (4 + n)
    split n = omega arith

one_frame : (bytes : List ℕ) (f g : Frame) → NextFrame bytes f → NextFrame bytes g → f ≡ g
one_frame bytes f g s t =
    same_frame f g (sym s.number_is ∙ t.number_is)
    (same_body (body_of f) (body_of g) (sym s.flags_is ∙ t.flags_is) (sym s.stream_is ∙ t.stream_is) (sym s.payload_is ∙ t.payload_is))

-- ---- where no frame stands in front

stuck : (bytes : List ℕ) (f : Frame) → IsPartial bytes ⊎ IsTooLong bytes → size_of f ≤ length bytes → NextFrame bytes f → ⊥
stuck bytes f (inl (inl short)) le s = omega arith
stuck bytes f (inl (inr p)) le s = omega (arith, p.1, s.length_is, le)
stuck bytes f (inr long) le s = let short : length (body_of f).payload ≤ 16384 = (body_of f).payload_in_range in omega (arith, long.1, s.length_is, short)

-- two readings of one list go the same way
one_reading : (bytes other : List ℕ) (fs gs : List Frame) (r q : List ℕ) → bytes ≡ other → Reads bytes fs r → Reads other gs q → IsPartial r ⊎ IsTooLong r → IsPartial q ⊎ IsTooLong q → (fs ≡ gs) × (r ≡ q)
one_reading bytes other [] [] r q same h k ends ends' = (refl, h ∙ same ∙ sym k)
one_reading bytes other [] (g ∷ gs) r q same h k ends ends' =
    absurd (stuck other g (subst (λ (x : List ℕ). IsPartial x ⊎ IsTooLong x) (h ∙ same) ends) k.0 (says_of other g k.0 k.1))
one_reading bytes other (f ∷ fs) [] r q same h k ends ends' =
    absurd (stuck bytes f (subst (λ (x : List ℕ). IsPartial x ⊎ IsTooLong x) (k ∙ sym same) ends') h.0 (says_of bytes f h.0 h.1))
one_reading bytes other (f ∷ fs) (g ∷ gs) r q same h k ends ends' =
    let first : f ≡ g = one_frame bytes f g (says_of bytes f h.0 h.1) (subst (λ (x : List ℕ). NextFrame x g) (sym same) (says_of other g k.0 k.1)) in
    let rest = one_reading (drop (size_of f) bytes) (drop (size_of g) other) fs gs r q (ap (λ (x : List ℕ). drop (size_of f) x) same ∙ ap (λ (x : Frame). drop (size_of x) other) first) h.2 k.2 ends ends' in
    (ap (λ (x : Frame). x ∷ fs) first ∙ ap (λ (x : List Frame). g ∷ x) rest.0, rest.1)

apart : (rest : List ℕ) → IsPartial rest → IsTooLong rest → ⊥
apart rest (inl short) long = omega (arith, long.0)
apart rest (inr p) long = omega (arith, p.0, long.1)

pub unique : (due bytes : List ℕ) (fs gs : List Frame) (e d : Ending) → Reading due bytes fs e → Reading due bytes gs d → (fs ≡ gs) × (e ≡ d)
unique due bytes fs gs (Waiting r) (Waiting q) h k =
    let u = one_reading (drop (length due) bytes) (drop (length due) bytes) fs gs r q refl h.reads k.reads (inl h.partial) (inl k.partial) in
    (u.0, ap Waiting u.1)
unique due bytes fs gs (Waiting r) (Broken code place) h (inl b) = absurd (b.0 h.follows)
unique due bytes fs gs (Waiting r) (Broken code place) h (inr b) =
    let u = one_reading (drop (length due) bytes) (drop (length due) bytes) fs gs r b.0 refl h.reads b.2 (inl h.partial) (inr b.3) in
    absurd (apart b.0 (subst IsPartial u.1 h.partial) b.3)
unique due bytes fs gs (Broken code place) (Waiting q) (inl b) k = absurd (b.0 k.follows)
unique due bytes fs gs (Broken code place) (Waiting q) (inr b) k =
    let u = one_reading (drop (length due) bytes) (drop (length due) bytes) gs fs q b.0 refl k.reads b.2 (inl k.partial) (inr b.3) in
    absurd (apart b.0 (subst IsPartial u.1 k.partial) b.3)
unique due bytes fs gs (Broken code place) (Broken code' place') (inl b) (inl c) =
    (b.1 ∙ sym c.1, ap (λ (x : ErrorCode). Broken x place) (b.2 ∙ sym c.2) ∙ ap (Broken code') (b.3 ∙ sym c.3))
unique due bytes fs gs (Broken code place) (Broken code' place') (inl b) (inr c) = absurd (b.0 c.1)
unique due bytes fs gs (Broken code place) (Broken code' place') (inr b) (inl c) = absurd (c.0 b.1)
unique due bytes fs gs (Broken code place) (Broken code' place') (inr b) (inr c) =
    let u = one_reading (drop (length due) bytes) (drop (length due) bytes) fs gs b.0 c.0 refl b.2 c.2 (inr b.3) (inr c.3) in
    (u.0, ap (λ (x : ErrorCode). Broken x place) (b.4 ∙ sym c.4) ∙ ap (Broken code') (b.5 ∙ ap (place_after due) u.0 ∙ sym c.5))

-- ---- what was written is read again

text_length : (f : Frame) → length (frame_text f) ≡ size_of f
text_length f = long (type_of f) (body_of f).flags (body_of f).stream (body_of f).payload
  where
    long : (number flags word : ℕ) (payload : List ℕ) → length (text_of number flags word payload) ≡ 9 + length payload
    long number flags word payload = omega arith

Reads-written : (fs : List Frame) (rest : List ℕ) → Reads (flat_map frame_text fs ++ rest) fs rest
Reads-written [] rest = refl
Reads-written (f ∷ fs) rest =
    let behind = flat_map frame_text fs ++ rest in
    let bytes = flat_map frame_text (f ∷ fs) ++ rest in
    let parts : bytes ≡ frame_text f ++ behind = append_assoc (frame_text f) (flat_map frame_text fs) rest in (
      omega (arith, ap length parts, length-append (frame_text f) behind, text_length f),
      (0, omega arith, ap (take (size_of f)) parts ∙ take_at (frame_text f) behind (size_of f) (text_length f) ∙ ap (λ (n : ℕ). text_of (type_of f) (body_of f).flags n (body_of f).payload) (plain (body_of f).stream)),
      subst (λ (x : List ℕ). Reads x fs rest) (sym (ap (drop (size_of f)) parts ∙ drop_at (frame_text f) behind (size_of f) (text_length f))) (Reads-written fs rest),
    )
  where
    plain : (n : ℕ) → n ≡ 0 * 2 ^ 31 + n
    plain n = omega arith

pub read_again : (due rest : List ℕ) (fs : List Frame) → IsPartial rest → Frames due (due ++ (flat_map frame_text fs ++ rest)) fs rest
read_again due rest fs partial =
    let behind = flat_map frame_text fs ++ rest in
    record {
      follows = take_at due behind (length due) refl ∙ sym (take_all (length (due ++ behind)) due (omega (arith, length-append due behind)));
      reads = subst (λ (x : List ℕ). Reads x fs rest) (sym (drop_at due behind (length due) refl)) (Reads-written fs rest);
      partial = partial;
    }
