-- What is written of the output, piece by piece, and what is told of it.
use Rattle.std.proofs.Common.{◌≡◌, inl, inr, ℕ, ◌<◌, ◌≤◌, true, false, length, map, take, drop, List, [], ◌∷◌, ◌++◌, Option, Some, None, refl, sym, ap, subst, ◌∙◌, arith, append_assoc, append-nil, length-append}
use Rattle.std.specs.List.{flat_map}
use Rattle.std.specs.Option.{option_map}
use Rattle.std.proofs.lemmas.List.{map-append, take-append-drop, length-take}
use Rattle.std.proofs.lemmas.List.Concat.{flat_map-append}
use Rattle.rig_io.specs.Fault.{HasCause, HasRisen, StaysUnless}
use Rattle.rig_io.specs.Link.{Piece, received, received_bytes, sent, sent_bytes}
use Rattle.http_connection.specs.ConnectionTrace.{dropped_more}
use Rattle.grpc_stream.specs.CallTrace.{CallTrace, Carries, changed}
use Rattle.compliance_client.specs.Turns.{Puts, got}

pub false_true : {A : Type 0} → false ≡ true → A
false_true e = absurd (refuted e)
  where
    refuted : false ≡ true → ⊥
    refuted f = cc

-- ---- what a link told

pub told_none : (first : Option (List Piece)) → first ≡ option_map (λ told. told ++ []) first
told_none None = refl
told_none (Some told) = ap (λ (l : List Piece). (let o : Option (List Piece) = Some l in o)) (sym (append-nil told))

told_two : (first : Option (List Piece)) (xs ys : List Piece) →
    option_map (λ told. told ++ ys) (option_map (λ told. told ++ xs) first) ≡ option_map (λ told. told ++ (xs ++ ys)) first
told_two None xs ys = refl
told_two (Some told) xs ys = ap (λ (l : List Piece). (let o : Option (List Piece) = Some l in o)) (append_assoc told xs ys)

pub told_then : (first mid now : Option (List Piece)) (xs ys : List Piece) → mid ≡ option_map (λ told. told ++ xs) first →
    now ≡ option_map (λ told. told ++ ys) mid → now ≡ option_map (λ told. told ++ (xs ++ ys)) first
told_then first mid now xs ys h k = k ∙ (ap (λ (o : Option (List Piece)). option_map (λ told. told ++ ys) o) h ∙ told_two first xs ys)

pub got_bytes : (bytes : List ℕ) → flat_map received_bytes (got bytes) ≡ bytes
got_bytes [] = refl
got_bytes (b ∷ bytes) = append-nil (b ∷ bytes)

pub got_unsent : (bytes : List ℕ) → flat_map sent_bytes (got bytes) ≡ []
got_unsent [] = refl
got_unsent (b ∷ bytes) = refl

pub got_some : (bytes : List ℕ) → 0 < length bytes → received bytes ∷ [] ≡ got bytes
got_some [] some = absurd (omega (arith, some))
got_some (b ∷ bytes) some = refl

pub short_read : (n most : ℕ) (buffer now : List ℕ) → length buffer ≡ most → length now ≡ length buffer → length (take n now) ≤ most
short_read n most buffer now size same = omega (arith, size, same, length-take n now)

-- ---- counts that stand at first

pub rises_from : (first mid now : ℕ) (was is : Type 0) → mid ≡ first → (is → was) → HasCause mid now was → HasCause first now is
rises_from first mid now was is same back h = record {
  later = (let a = h.later in omega (arith, a, same));
  rose = λ x. subst (λ (n : ℕ). HasRisen n now) same (h.rose (back x));
}

pub stays_from : (first mid now : ℕ) (was is : Type 0) → mid ≡ first → (was → is) → StaysUnless mid now was → StaysUnless first now is
stays_from first mid now was is same on (inl x) = inl (on x)
stays_from first mid now was is same on (inr e) = inr (e ∙ same)

pub stays_still : (first mid now : ℕ) (was : Type 0) → mid ≡ first → (was → ⊥) → StaysUnless mid now was → now ≡ first
stays_still first mid now was same never (inl x) = absurd (never x)
stays_still first mid now was same never (inr e) = e ∙ same

-- ---- bytes

-- the bytes of pieces that were put
abbrev pub bytes_of : List (List ℕ) → List ℕ
bytes_of texts = flat_map sent_bytes (map sent texts)

pub bytes_more : (texts more : List (List ℕ)) → bytes_of (texts ++ more) ≡ bytes_of texts ++ bytes_of more
bytes_more texts more = ap (flat_map sent_bytes) (map-append sent texts more) ∙ flat_map-append sent_bytes (map sent texts) (map sent more)

pub put_nothing_in : (texts : List (List ℕ)) → flat_map received_bytes (map sent texts) ≡ []
put_nothing_in [] = refl
put_nothing_in (text ∷ texts) = put_nothing_in texts

-- ---- one piece behind others

module _ {K : Type 0} (uses : K → CallTrace → Type 0) (output : K → List ℕ) where
  drops_as : (calls : K) (t : CallTrace) (a b : List ℕ) → a ≡ b → uses calls (changed (dropped_more a) t) → uses calls (changed (dropped_more b) t)
  drops_as calls t a b e h = subst (λ (l : List ℕ). uses calls (changed (dropped_more l) t)) e h

  drops_none : (calls : K) (t : CallTrace) → uses calls t → uses calls (changed (dropped_more []) t)
  drops_none calls t h =
      subst (λ (l : List ℕ). uses calls (changed (λ c. record c { dropped = l }) t)) (sym (append-nil t.connection_trace.dropped)) h

  drops_two : (calls : K) (t : CallTrace) (a b : List ℕ) → uses calls (changed (dropped_more b) (changed (dropped_more a) t)) →
      uses calls (changed (dropped_more (a ++ b)) t)
  drops_two calls t a b h =
      subst (λ (l : List ℕ). uses calls (changed (λ c. record c { dropped = l }) t)) (append_assoc t.connection_trace.dropped a b) h

  pub puts_none : (calls : K) (told : Option (List Piece)) → Puts uses output calls calls told told []
  puts_none calls told = record {
    output_is = refl;
    carries = λ t h. drops_none calls t h;
    pieces = told_none told;
  }

  pub puts_more : (before mid calls : K) (told heard now : Option (List Piece)) (texts more : List (List ℕ)) → Puts uses output before mid told heard texts →
      Puts uses output mid calls heard now more → Puts uses output before calls told now (texts ++ more)
  puts_more before mid calls told heard now texts more h k = record {
    output_is = h.output_is ∙ (ap (λ (l : List ℕ). bytes_of texts ++ l) k.output_is ∙ (sym (append_assoc (bytes_of texts) (bytes_of more) (output calls))
        ∙ ap (λ (l : List ℕ). l ++ output calls) (sym (bytes_more texts more))));
    carries = λ t u. drops_as calls t (bytes_of texts ++ bytes_of more) (bytes_of (texts ++ more)) (sym (bytes_more texts more))
        (drops_two calls t (bytes_of texts) (bytes_of more) (k.carries (changed (dropped_more (bytes_of texts)) t) (h.carries t u)));
    pieces = told_then told heard now (map sent texts) (map sent more) h.pieces k.pieces
        ∙ ap (λ (l : List Piece). option_map (λ pieces. pieces ++ l) told) (sym (map-append sent texts more));
  }

  pub puts_same : (before mid calls : K) (told heard now : Option (List Piece)) (texts : List (List ℕ)) → calls ≡ mid → now ≡ heard →
      Puts uses output before mid told heard texts → Puts uses output before calls told now texts
  puts_same before mid calls told heard now texts e f h =
      subst (λ (k : K). Puts uses output before k told now texts) (sym e)
      (subst (λ (o : Option (List Piece)). Puts uses output before mid told o texts) (sym f) h)

  -- the first bytes of the output were put and dropped
  pub puts_one : (before calls : K) (told now : Option (List Piece)) (out : List ℕ) (n : ℕ) → out ≡ output before → (1 ≤ n) × (n ≤ length out) →
      Carries (uses before) (uses calls) (changed (dropped_more (take n (output before)))) → output calls ≡ drop n (output before) →
      now ≡ option_map (λ pieces. pieces ++ sent (take n out) ∷ []) told →
      (text : List ℕ) × (0 < length text) × Puts uses output before calls told now (text ∷ [])
  puts_one before calls told now out n same bound carries rest told_now = (
    take n out,
    omega (arith, bound.0, bound.1, length-take n out),
    record {
      output_is = sym (take-append-drop n (output before)) ∙ (ap (λ (l : List ℕ). l ++ drop n (output before)) whole
          ∙ ap (λ (l : List ℕ). (take n out ++ []) ++ l) (sym rest));
      carries = λ t h. drops_as calls t (take n (output before)) (take n out ++ []) whole (carries t h);
      pieces = told_now;
    },
  )
    where
      whole : take n (output before) ≡ take n out ++ []
      whole = ap (take n) (sym same) ∙ sym (append-nil (take n out))

pub put_some : (texts : List (List ℕ)) (text : List ℕ) → 0 < length text → 0 < length (bytes_of (texts ++ text ∷ []))
put_some texts text some =
    (let a : length (bytes_of (texts ++ text ∷ [])) ≡ length (bytes_of texts ++ (text ++ [])) = ap length (bytes_more texts (text ∷ [])) in
    let b = length-append (bytes_of texts) (text ++ []) in
    let c : length (text ++ []) ≡ length text = ap length (append-nil text) in
    omega (arith, some, a, b, c))

pub put_none : 0 < length (bytes_of []) → false ≡ true
put_none some = absurd (omega (arith, some))
