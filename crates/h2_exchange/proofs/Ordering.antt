-- How the order of an exchange lasts.
use Rattle.std.proofs.Common.{◌≡◌, ◌⊎◌, ℕ, ◌<◌, ◌≤◌, List, [], ◌∷◌, ◌++◌, length, refl, sym, ap, ◌∙◌, arith, inl, inr, append_assoc, sum_by}
use Rattle.std.specs.List.{flat_map}
use Rattle.std.proofs.lemmas.List.{append-nil, length-append}
use Rattle.std.proofs.lemmas.List.Concat.{flat_map-append}
use Rattle.std.proofs.lemmas.List.Sums.{sum_by-append}
use Rattle.h2_frames.specs.declared.frame.Frame.{Frame}
use Rattle.h2_frames.specs.Layout.{frame_text, size_of}
use Rattle.h2_exchange.specs.declared.role.Role.{Role}
use Rattle.h2_exchange.specs.Exchange.{Step, Received, received_of, sent_of, received, sent, sent_text}
use Rattle.rig_io.specs.Link as link
use Rattle.h2_exchange.specs.Order.{Piece, received_bytes, sent_bytes, end_of, peer_preface, own_preface, InOrder}

-- ---- lists that are cut in two ways

module _ {A : Type 0} where
  same_cells : (a b : A) (xs ys : List A) → a ∷ xs ≡ b ∷ ys → (a ≡ b) × (xs ≡ ys)
  same_cells a b xs ys e = (cc, cc)

  -- a list with one more cell is cut behind it or before it
  pub cut_push : (ps : List A) (p : A) (early late : List A) → ps ++ p ∷ [] ≡ early ++ late → (late ≡ []) ⊎ ((rest : List A) × (ps ≡ early ++ rest))
  cut_push ps p [] late e = inr (ps, refl)
  cut_push [] p (a ∷ early) late e = inl (nothing_left early late (same_cells p a [] (early ++ late) e).1)
    where
      nothing_left : (early late : List A) → [] ≡ early ++ late → late ≡ []
      nothing_left [] late e = sym e
      nothing_left (a ∷ early) late e = absurd cc
  cut_push (q ∷ ps) p (a ∷ early) late e =
      let s = same_cells q a (ps ++ p ∷ []) (early ++ late) e in
      elim (cut_push ps p early late s.1) [
        | inl none ↦ inl none
        | inr r ↦ inr (r.0, both q a ps (early ++ r.0) s.0 r.1)
      ]
    where
      both : (a b : A) (xs ys : List A) → a ≡ b → xs ≡ ys → a ∷ xs ≡ b ∷ ys
      both a b xs ys p q = cc

  -- a cell of a list that was joined stands in the first part or behind it
  cell_of : (x more before behind : List A) (s : A) → x ++ more ≡ before ++ s ∷ behind → ((rest : List A) × (x ≡ before ++ s ∷ rest)) ⊎ ((front : List A) × (before ≡ x ++ front))
  cell_of [] more before behind s e = inr (before, refl)
  cell_of (a ∷ x) more [] behind s e = inl (x, head a s x (same_cells a s (x ++ more) behind e).0)
    where
      head : (a s : A) (x : List A) → a ≡ s → a ∷ x ≡ s ∷ x
      head a s x e = cc
  cell_of (a ∷ x) more (b ∷ before) behind s e =
      let h = same_cells a b (x ++ more) (before ++ s ∷ behind) e in
      elim (cell_of x more before behind s h.1) [
        | inl r ↦ inl (r.0, both a b x (before ++ s ∷ r.0) h.0 r.1)
        | inr f ↦ inr (f.0, both b a before (x ++ f.0) (sym h.0) f.1)
      ]
    where
      both : (a b : A) (xs ys : List A) → a ≡ b → xs ≡ ys → a ∷ xs ≡ b ∷ ys
      both a b xs ys p q = cc

-- ---- lengths

gots_push : (ps : List Piece) (p : Piece) → length (received_bytes ps) ≤ length (received_bytes (ps ++ p ∷ []))
gots_push ps p = omega (arith, ap length (flat_map-append link.received_bytes ps (p ∷ [])), length-append (received_bytes ps) (received_bytes (p ∷ [])))

puts_front : (early late : List Piece) → length (sent_bytes early) ≤ length (sent_bytes (early ++ late))
puts_front early late = omega (arith, ap length (flat_map-append link.sent_bytes early late), length-append (sent_bytes early) (sent_bytes late))

sent_front : (x more : List Step) → length (sent_text x) ≤ length (sent_text (x ++ more))
sent_front x more =
    let a : sent_text (x ++ more) ≡ sent_text x ++ sent_text more = ap (flat_map frame_text) (flat_map-append sent_of x more) ∙ flat_map-append frame_text (sent x) (sent more) in
    omega (arith, ap length a, length-append (sent_text x) (sent_text more))

-- a received frame ends no later than all of them
ends_within : (due : List ℕ) (before behind : List Step) (f : Frame) → end_of due (received before ++ f ∷ []) ≤ end_of due (received (before ++ Received f ∷ behind))
ends_within due before behind f =
    let a : received (before ++ Received f ∷ behind) ≡ received before ++ (f ∷ received behind) = flat_map-append received_of before (Received f ∷ behind) in
    let b : received before ++ (f ∷ received behind) ≡ (received before ++ f ∷ []) ++ received behind = sym (append_assoc (received before) (f ∷ []) (received behind)) in
    omega (arith, ap (sum_by size_of) (a ∙ b), sum_by-append size_of (received before ++ f ∷ []) (received behind))

-- ---- the order lasts

some_received : (before behind : List Step) (f : Frame) (x : List Step) → x ≡ before ++ Received f ∷ behind → 0 < length (received x)
some_received before behind f x e = omega (arith, ap (λ (y : List Step). length (received y)) e, ap length (flat_map-append received_of before (Received f ∷ behind)), length-append (received before) (f ∷ received behind))

-- a further call of the link, where all received frames were given before it
pub order_told : (role : Role) (ps : List Piece) (p : Piece) (x : List Step) → (0 < length (received x) → end_of (peer_preface role) (received x) ≤ length (received_bytes ps)) → InOrder role ps x → InOrder role (ps ++ p ∷ []) x
order_told role ps p x given order early late before behind f split cell lt =
    elim (cut_push ps p early late split) [
      | inl none ↦
          let whole : early ≡ ps ++ p ∷ [] = sym (append-nil early) ∙ ap (λ (l : List Piece). early ++ l) (sym none) ∙ sym split in
          let some : 0 < length (received x) = some_received before behind f x cell in
          absurd (omega (arith, lt, given some, gots_push ps p, ap (λ (l : List Piece). length (received_bytes l)) whole, ends_within (peer_preface role) before behind f, ap (λ (y : List Step). end_of (peer_preface role) (received y)) cell))
      | inr r ↦ order early r.0 before behind f r.1 cell lt
    ]

-- further frames, where all that was placed was sent before them
pub order_more : (role : Role) (ps : List Piece) (x more : List Step) → length (sent_bytes ps) ≤ length (own_preface role ++ sent_text x) → InOrder role ps x → InOrder role ps (x ++ more)
order_more role ps x more placed order early late before behind f split cell lt =
    elim (cell_of x more before behind (Received f) cell) [
      | inl r ↦ order early late before r.0 f split r.1 lt
      | inr t ↦ omega (
        arith,
        placed,
        puts_front early late,
        ap (λ (l : List Piece). length (sent_bytes l)) split,
        sent_front x t.0,
        ap (λ (y : List Step). length (sent_text y)) t.1,
        length-append (own_preface role) (sent_text x),
        length-append (own_preface role) (sent_text before),
      )
    ]
