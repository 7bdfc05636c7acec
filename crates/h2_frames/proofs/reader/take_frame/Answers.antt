use Rattle.std.proofs.Common.{◌≡◌, ◌≤◌, ℕ, ◌+◌, List, take, drop, length, refl, sym, ap, subst, ◌∙◌, arith}
use Rattle.std.proofs.lemmas.List.{drop-take, drop-drop, length-drop, length-take-le}
use Rattle.h2_frames.specs.declared.frame.Frame.{Frame}
use Rattle.h2_frames.specs.declared.frame.FrameBody.{FrameBody}
use Rattle.h2_frames.specs.declared.header.Header.{Header}
use Rattle.h2_frames.specs.Layout.{type_of, body_of, size_of, IsFrame, IsBytes, IsHeaderOf}
use Rattle.h2_frames.specs.Stream.{TakesFrame}
use Rattle.h2_frames.proofs.Layouts.{is_frame}
use Rattle.h2_frames.proofs.reader.take_frame.Goals as goal

-- what is left of the first bytes, once those before the payload are dropped
payload_is : (items : List ℕ) (start n end : ℕ) → end ≡ start + 9 + n → drop (start + 9) (take end items) ≡ take n (drop 9 (drop start items))
payload_is items start n end e =
    ap (λ (k : ℕ). drop (start + 9) (take k items)) e ∙ drop-take (start + 9) n items ∙ ap (take n) (sym (drop-drop 9 start items))

taken : (items : List ℕ) (start end : ℕ) (h : Header) (f : Frame) (b : FrameBody) (rest : List ℕ) → IsBytes (take 9 (drop start items)) → IsHeaderOf h (drop start items) → end ≡ start + 9 + h.length → end ≤ length items →
    type_of f ≡ h.number → body_of f ≡ b → b.flags ≡ h.flags → b.stream ≡ h.stream → b.payload ≡ drop (start + 9) (take end items) → rest ≡ drop end items → TakesFrame (drop start items) f rest
taken items start end h f b rest fits says e le number body flags stream payload rest-is =
    let bytes = drop start items in
    let long : 9 + h.length ≤ length bytes = omega (arith, length-drop start items) in
    let payload' : (body_of f).payload ≡ take h.length (drop 9 bytes) = ap (λ (x : FrameBody). x.payload) body ∙ payload ∙ payload_is items start h.length end e in
    let size : size_of f ≡ 9 + h.length = ap (λ (x : List ℕ). 9 + length x) payload' ∙ ap (λ (k : ℕ). 9 + k) (length-take-le h.length (drop 9 bytes) (omega (arith, length-drop 9 bytes))) in
    record {
      whole = omega arith;
      frame = subst (λ (k : ℕ). IsFrame (take k bytes) f) (sym size) (is_frame bytes h f fits says long number (ap (λ (x : FrameBody). x.flags) body ∙ flags) (ap (λ (x : FrameBody). x.stream) body ∙ stream) payload');
      rest_is = rest-is ∙ ap (λ (k : ℕ). drop k items) (rearranged start h.length size end e) ∙ sym (drop-drop (size_of f) start items);
    } where
      rearranged : (start n : ℕ) → size_of f ≡ 9 + n → (end : ℕ) → end ≡ start + 9 + n → end ≡ start + size_of f
      rearranged start n s end e = omega arith

pub returns-clause-ok : goal.returns-clause-ok
returns-clause-ok c =
    let r = c.requires in
    taken c.args.held.now c.args.start c.args.end c.args.header c.of_type.result _ c.take.new.self r.bytes r.header r.end r.whole c.of_type.ensures.number c.of_type.ensures.body refl refl c.in_ok-payload.ensures.taken c.in_ok-payload.ensures.rest
