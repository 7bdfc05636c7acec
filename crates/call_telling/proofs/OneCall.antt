-- What is kept of one call is changed where the first on its stream is.
use Rattle.std.proofs.Common.{◌≡◌, ℕ, ◌+◌, ◌==◌, Bool, true, false, List, [], ◌∷◌, length, map, sum_by, Option, Some, refl, sym, ap, subst, ◌∙◌, arith}
use Rattle.std.specs.Prelude.{if◌then◌else◌}
use Rattle.std.proofs.lemmas.Bool.{eqb-true}
use Rattle.std.proofs.lemmas.List.Sums.{sum_by-append}
use Rattle.grpc_stream.specs.CallTrace.{CallTrace}
use Rattle.kept_calls.specs.CallState.{CallState, call_on, stopped, with_piece}
use Rattle.kept_calls.specs.Table.{changed_at, changed_on}
use Rattle.call_hearing.specs.declared.pending.Pending.{Pending}
use Rattle.call_hearing.specs.declared.pending.Pending.TheVariants.{Nothing}
use Rattle.call_standing.specs.Standing.{Holds, State}
use Rattle.call_standing.proofs.Found.{IsChanged}
use Rattle.call_hearing.specs.Laws.{message_told}
use Rattle.call_telling.specs.Giving.{told_more}
use Rattle.call_telling.specs.Laws.{CutsAreTold, EventsAreTaken}
use Rattle.call_telling.proofs.Begins.{begins_holds}
use Rattle.call_telling.proofs.Cuts.{message_holds, unheard_holds}
use Rattle.call_telling.proofs.Listened.{dropped_holds, fed_holds, finished_holds, trailers_hold}

abbrev held_of : CallState → ℕ
held_of c = length c.cutter.held

sum_first : (c : CallState) (cs : List CallState) → sum_by held_of (c ∷ cs) ≡ held_of c + sum_by held_of cs
sum_first c cs =
    let alone : sum_by held_of (c ∷ []) ≡ 0 + held_of c = refl in
    omega (arith, alone, sum_by-append held_of (c ∷ []) cs)

module _ (id : ℕ) (f : CallState → CallState) (keeps : (c : CallState) → (f c).stream ≡ c.stream) where
  pub changed_is : (cs : List CallState) (c : CallState) → call_on id cs ≡ Some c → IsChanged id c (f c) cs (changed_on id f cs)
  changed_is [] c e = absurd cc
  changed_is (x ∷ xs) c e = by (x.stream == id) refl e (changed_is xs c)
    where
      first : x ≡ c → (x.stream == id) ≡ true → IsChanged id c (f c) (x ∷ xs) (f x ∷ xs)
      first same t =
          subst (λ (y : CallState). IsChanged id y (f y) (x ∷ xs) (f x ∷ xs)) same (record {
            was = ap (λ (b : Bool). if b then Some x else call_on id xs) t;
            on = eqb-true x.stream id t;
            here = ap (λ (b : Bool). if b then Some (f x) else call_on id xs) (ap (λ (k : ℕ). k == id) (keeps x) ∙ t);
            other = λ k apart.
                let off : (x.stream == k) ≡ false = ap (λ (n : ℕ). n == k) (eqb-true x.stream id t) ∙ apart in
                ap (λ (b : Bool). if b then Some (f x) else call_on k xs) (ap (λ (n : ℕ). n == k) (keeps x) ∙ off)
                ∙ sym (ap (λ (b : Bool). if b then Some x else call_on k xs) off);
            streams = ap (λ (n : ℕ). n ∷ map (λ (c : CallState). c.stream) xs) (keeps x);
            held = λ h. let one = sum_first (f x) xs in let two = sum_first x xs in omega (arith, one, two, h);
          })

      later : (x.stream == id) ≡ false → IsChanged id c (f c) xs (changed_on id f xs) → IsChanged id c (f c) (x ∷ xs) (x ∷ changed_on id f xs)
      later t r = record {
        was = ap (λ (b : Bool). if b then Some x else call_on id xs) t ∙ r.was;
        on = r.on;
        here = ap (λ (b : Bool). if b then Some x else call_on id (changed_on id f xs)) t ∙ r.here;
        other = λ k apart. ap (λ (o : Option CallState). if x.stream == k then Some x else o) (r.other k apart);
        streams = ap (λ (ids : List ℕ). x.stream ∷ ids) r.streams;
        held = λ h.
            let one = sum_first x xs in
            let two = sum_first x (changed_on id f xs) in
            let rest = r.held h in
            omega (arith, one, two, rest);
      }

      by : (b : Bool) → (x.stream == id) ≡ b → (if b then Some x else call_on id xs) ≡ Some c → (call_on id xs ≡ Some c → IsChanged id c (f c) xs (changed_on id f xs)) →
          IsChanged id c (f c) (x ∷ xs) (changed_at b x xs (changed_on id f xs) f)
      by true t e rest = let same : x ≡ c = cc in first same t
      by false t e rest = later t (rest e)

as_before : (s : State) (t : CallTrace) → s.pending ≡ Nothing → Holds (record s { pending = Nothing }) t → Holds s t
as_before s t quiet h = subst (λ (p : Pending). Holds (record s { pending = p }) t) (sym quiet) h

with_calls : (s : State) (cs : List CallState) (t : CallTrace) → s.pending ≡ Nothing → Holds (record s { calls = cs; pending = Nothing }) t → Holds (record s { calls = cs }) t
with_calls s cs t quiet h = subst (λ (p : Pending). Holds (record s { calls = cs; pending = p }) t) (sym quiet) h

pub events_are_taken : EventsAreTaken
events_are_taken = record {
  fed = λ s t c bytes heard next h.
      fed_holds t s (changed_on c.stream (with_piece bytes) s.calls) c heard.quiet heard.opened next.0 h bytes next.1 next.2 (changed_is c.stream (with_piece bytes) (λ x. refl) s.calls c heard.here);
  finished = λ s t c heard none server next h. as_before s _ heard.quiet (finished_holds t s s.calls c heard.quiet heard.opened next.0 h server heard.here none next.1);
  dropped = λ s t c why heard server next h. as_before s _ heard.quiet (dropped_holds t s s.calls c heard.quiet heard.opened next.0 h server heard.here why next.1);
  closed = λ s t c fields heard client next h.
      with_calls s (changed_on c.stream stopped s.calls) _ heard.quiet
      (trailers_hold t s (changed_on c.stream stopped s.calls) c heard.quiet heard.opened next.0 h client fields next.1 (changed_is c.stream stopped (λ x. refl) s.calls c heard.here));
  begun = λ s t id fields last method quiet is server next h. begins_holds t s id fields last next.0 server next.1 next.2 quiet h method is;
}

pub cuts_are_told : CutsAreTold
cuts_are_told = record {
  message = λ s t c m new pending here opened next h.
      subst (λ (p : Pending). Holds (record s { calls = changed_on c.stream (λ (x : CallState). record x { cutter = new }) s.calls; pending = p }) (told_more t (message_told t.connection_trace.role c.stream m ∷ []) t.taken)) (sym pending)
      (message_holds t s (changed_on c.stream (λ (x : CallState). record x { cutter = new }) s.calls) c new pending opened h m next
      (changed_is c.stream (λ (x : CallState). record x { cutter = new }) (λ x. refl) s.calls c here));
  unheard = λ s t id pending none h. unheard_holds t s id pending none h;
}
