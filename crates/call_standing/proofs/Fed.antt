-- What is fed, and what is dropped of the output.
use Rattle.std.proofs.Common.{◌≡◌, ℕ, ◌+◌, ◌-◌, ◌≤◌, List, ◌++◌, length, take, drop, sym, ap, subst, ◌∙◌, arith, append_assoc}
use Rattle.std.proofs.lemmas.List.{append_cancel_left, drop-take, length-drop, length-take, take-append-drop, take-take}
use Rattle.http_connection.specs.ConnectionTrace.{ConnectionTrace, IsSound, dropped_more, fed_more}
use Rattle.grpc_stream.specs.CallTrace.{CallTrace, changed}
use Rattle.call_standing.specs.declared.fate.Fate.{Fate}
use Rattle.call_standing.specs.declared.fate.Fate.TheVariants.{Going, Refused, Starved, Dead}
use Rattle.call_standing.specs.Standing.{Hides, IsHiding, StandsFor, State, shifted, shown_by}

module _ {C : Type 0} (stands : C → ConnectionTrace → Type 0) (output : C → List ℕ) (law : (conn : C) (c : ConnectionTrace) → stands conn c → IsSound c (output conn))
    (piece : List ℕ) (old new : C) (feeds : (c : ConnectionTrace) → stands old c → stands new (fed_more piece c)) where
  same_output : (c : ConnectionTrace) → stands old c → output new ≡ output old
  same_output c h =
      append_cancel_left c.dropped (output new) (output old) (sym (law new (fed_more piece c) (feeds c h)).text ∙ (law old c h).text)

  fed_sound : (shown : ℕ) (c hidden : ConnectionTrace) → stands old hidden → Hides c hidden → IsSound c (take shown (output old)) → IsSound (fed_more piece c) (take shown (output new))
  fed_sound shown c hidden h hides sound =
      let seen = law new (fed_more piece hidden) (feeds hidden h) in
      let fed_is : hidden.fed ++ piece ≡ c.fed ++ piece = ap (λ (x : List ℕ). x ++ piece) hides.fed_is in
      let front = rw (hides.role_is, fed_is, hides.received_is) at seen.front in
      let within = rw (hides.role_is, fed_is, hides.received_is) at seen.within in
      record {
        front = front;
        within = within;
        text = sound.text ∙ ap (λ (x : List ℕ). c.dropped ++ take shown x) (sym (same_output hidden h));
        read = sound.read;
        last = sound.last;
        spelled = sound.spelled;
        writable = sound.writable;
        closed = sound.closed;
        given = sound.given;
        placed = sound.placed;
        acknowledged = sound.acknowledged;
        windows = sound.windows;
        credited = sound.credited;
        resets = sound.resets;
      }

  fed_hiding : (shown : ℕ) (t : CallTrace) → IsHiding stands output old shown t → IsHiding stands output new shown (changed (fed_more piece) t)
  fed_hiding shown t h = record {
    hidden = fed_more piece h.hidden;
    connected = feeds h.hidden h.connected;
    hides = record {
      role_is = h.hides.role_is;
      fed_is = ap (λ (x : List ℕ). x ++ piece) h.hides.fed_is;
      dropped_is = h.hides.dropped_is;
      received_is = h.hides.received_is;
      alive = h.hides.alive;
    };
    within = subst (λ (x : List ℕ). shown ≤ length x) (sym (same_output h.hidden h.connected)) h.within;
    sound = fed_sound shown t.connection_trace h.hidden h.connected h.hides h.sound;
    rest = h.rest;
  }

  pub fed_stands : (fate : Fate) (s : State) (t : CallTrace) → StandsFor stands output fate old s t → StandsFor stands output fate new s (changed (fed_more piece) t)
  fed_stands Going s t h = record { connected = feeds t.connection_trace h.connected; alive = h.alive; holds = h.holds; rest = h.rest }
  fed_stands Refused s t h = record { connected = feeds t.connection_trace h.connected; refused = h.refused; rest = h.rest }
  fed_stands (Starved shown waiting) s t h = (fed_hiding shown t h.0, h.1, h.2)
  fed_stands (Dead shown) s t h = (fed_hiding shown t h.0, h.1)

-- what leaves the connection as it is used leaves the calls so
module _ {C : Type 0} (stands : C → ConnectionTrace → Type 0) (output : C → List ℕ) (law : (conn : C) (c : ConnectionTrace) → stands conn c → IsSound c (output conn))
    (old new : C) (keeps : (c : ConnectionTrace) → stands old c → stands new c) where
  kept_output : (c : ConnectionTrace) → stands old c → output new ≡ output old
  kept_output c h = append_cancel_left c.dropped (output new) (output old) (sym (law new c (keeps c h)).text ∙ (law old c h).text)

  kept_hiding : (shown : ℕ) (t : CallTrace) → IsHiding stands output old shown t → IsHiding stands output new shown t
  kept_hiding shown t h =
      let same = sym (kept_output h.hidden h.connected) in
      record {
        hidden = h.hidden;
        connected = keeps h.hidden h.connected;
        hides = h.hides;
        within = subst (λ (x : List ℕ). shown ≤ length x) same h.within;
        sound = subst (λ (x : List ℕ). IsSound t.connection_trace (take shown x)) same h.sound;
        rest = h.rest;
      }

  pub kept_stands : (fate : Fate) (s : State) (t : CallTrace) → StandsFor stands output fate old s t → StandsFor stands output fate new s t
  kept_stands Going s t h = record { connected = keeps t.connection_trace h.connected; alive = h.alive; holds = h.holds; rest = h.rest }
  kept_stands Refused s t h = record { connected = keeps t.connection_trace h.connected; refused = h.refused; rest = h.rest }
  kept_stands (Starved shown waiting) s t h = (kept_hiding shown t h.0, h.1, h.2)
  kept_stands (Dead shown) s t h = (kept_hiding shown t h.0, h.1)

-- ---- what is dropped of the output

pub within_all : (n : ℕ) (fate : Fate) (bytes : List ℕ) → n ≤ length (shown_by fate bytes) → n ≤ length bytes
within_all n Going bytes w = w
within_all n Refused bytes w = w
within_all n (Starved shown waiting) bytes w = omega (arith, w, length-take shown bytes)
within_all n (Dead shown) bytes w = omega (arith, w, length-take shown bytes)

drop_shown : (n shown : ℕ) (bytes : List ℕ) → n ≤ length (take shown bytes) → drop n (take shown bytes) ≡ take (shown - n) (drop n bytes)
drop_shown n shown bytes w =
    let all : shown ≡ n + (shown - n) = omega (arith, w, length-take shown bytes) in
    ap (λ (k : ℕ). drop n (take k bytes)) all ∙ drop-take n (shown - n) bytes

module _ {C : Type 0} (stands : C → ConnectionTrace → Type 0) (output : C → List ℕ) (n : ℕ) (old new : C)
    (drops : (c : ConnectionTrace) → stands old c → stands new (dropped_more (take n (output old)) c)) (left : output new ≡ drop n (output old)) where
  dropped_sound : (shown : ℕ) (c : ConnectionTrace) → n ≤ length (take shown (output old)) → IsSound c (take shown (output old)) →
      IsSound (dropped_more (take n (take shown (output old))) c) (take (shown - n) (output new))
  dropped_sound shown c w sound =
      let parts : take shown (output old) ≡ take n (take shown (output old)) ++ take (shown - n) (output new) =
      sym (take-append-drop n (take shown (output old))) ∙ ap (λ (x : List ℕ). take n (take shown (output old)) ++ x)
      (drop_shown n shown (output old) w ∙ ap (take (shown - n)) (sym left)) in
      record {
        front = sound.front;
        within = sound.within;
        text = sound.text ∙ ap (λ (x : List ℕ). c.dropped ++ x) parts ∙ sym (append_assoc c.dropped (take n (take shown (output old))) (take (shown - n) (output new)));
        read = sound.read;
        last = sound.last;
        spelled = sound.spelled;
        writable = sound.writable;
        closed = sound.closed;
        given = sound.given;
        placed = sound.placed;
        acknowledged = sound.acknowledged;
        windows = sound.windows;
        credited = sound.credited;
        resets = sound.resets;
      }

  dropped_hiding : (shown : ℕ) (t : CallTrace) → n ≤ length (take shown (output old)) → IsHiding stands output old shown t →
      IsHiding stands output new (shown - n) (changed (dropped_more (take n (take shown (output old)))) t)
  dropped_hiding shown t w h =
      let small : n ≤ shown = omega (arith, w, length-take shown (output old)) in
      let same : take n (output old) ≡ take n (take shown (output old)) = sym (take-take n shown (output old) small) in
      record {
        hidden = dropped_more (take n (output old)) h.hidden;
        connected = drops h.hidden h.connected;
        hides = record {
          role_is = h.hides.role_is;
          fed_is = h.hides.fed_is;
          dropped_is = ap (λ (x : List ℕ). x ++ take n (output old)) h.hides.dropped_is ∙ ap (λ (x : List ℕ). t.connection_trace.dropped ++ x) same;
          received_is = h.hides.received_is;
          alive = h.hides.alive;
        };
        within = let some = h.within in omega (arith, some, ap length left, length-drop n (output old));
        sound = dropped_sound shown t.connection_trace w h.sound;
        rest = h.rest;
      }

  pub dropped_stands : (fate : Fate) (s : State) (t : CallTrace) → n ≤ length (shown_by fate (output old)) → StandsFor stands output fate old s t →
      StandsFor stands output (shifted n fate) new s (changed (dropped_more (take n (shown_by fate (output old)))) t)
  dropped_stands Going s t w h = record { connected = drops t.connection_trace h.connected; alive = h.alive; holds = h.holds; rest = h.rest }
  dropped_stands Refused s t w h = record { connected = drops t.connection_trace h.connected; refused = h.refused; rest = h.rest }
  dropped_stands (Starved shown waiting) s t w h = (dropped_hiding shown t w h.0, h.1, h.2)
  dropped_stands (Dead shown) s t w h = (dropped_hiding shown t w h.0, h.1)

  pub dropped_output : (fate : Fate) → n ≤ length (shown_by fate (output old)) → shown_by (shifted n fate) (output new) ≡ drop n (shown_by fate (output old))
  dropped_output Going w = left
  dropped_output Refused w = left
  dropped_output (Starved shown waiting) w = ap (take (shown - n)) left ∙ sym (drop_shown n shown (output old) w)
  dropped_output (Dead shown) w = ap (take (shown - n)) left ∙ sym (drop_shown n shown (output old) w)
