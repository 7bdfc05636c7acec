-- What the steps tell, as clauses say it.
use Rattle.std.proofs.Common.{◌≡◌, ◌≢◌, ℕ, ◌+◌, ◌^◌, ◌<◌, List, [], ◌∷◌, ◌++◌, length, sym, refl, ap, ◌∙◌, subst, arith, Option, Some}
use mathlib.Core.Logic.{dite}
use mathlib.Core.List.{IsPrefix}
use mathlib.Core.Option.{some, some-injective}
use native.Mathlib.Decide.{dec_lt}
use lib.ListN.{get_elem?}
use Rattle.atomic_table.specs.Table.{Me, Step, Final, Seen}
use Rattle.atomic_table.specs.declared.shared.Seat.{Seat}
use Rattle.table_lock.specs.declared.machine.Entry.{Entry}
use Rattle.table_lock.specs.declared.view.Kind.TheVariants.{Pass}
use Rattle.table_lock.specs.declared.view.Phase.TheVariants.{Idle, Waits, Acts}
use Rattle.table_lock.specs.declared.view.Item.{Item}
use Rattle.table_lock.specs.declared.view.View.{View}
use Rattle.table_lock.specs.declared.view.Slot.{Slot}
use Rattle.table_lock.specs.Lock.{calls_of, entry, Apart, IsNotEnded, weight, name_of, LockInvariant, Turn, looked, handed_on}
use Rattle.table_lock.specs.Seats.{Took, IsActing, draws, pass_view}
use Rattle.table_lock.specs.Passes.{PassView, IsCalled, IsClosed}
use Rattle.table_lock.proofs.Lists.{prefix_refl, add_own, outs_none, one_value, weight_one}
use Rattle.table_lock.proofs.Keeps.{seat_of, name_is, name_pass}

module _ {M C R G : Type 0} (setup : M → G) (stands : M → List (Entry C R) → Type 0) (lawful : G → List (Entry C R) → Type 0) where
  abbrev S : Type 0
  S = Option (Slot M C R)

  abbrev V : Type 0
  V = View C R G

  pub took : (st : Step S) (t n : ℕ) (me at_loop me' : Me S V) → at_loop ≡ me → me.0.phase ≡ Waits t → me.1 ≡ [] → n ≡ t → looked setup stands lawful st at_loop n me' → Took setup stands lawful t me me'
  took st t n me at_loop me' same waits bare hit told =
      let told' : looked setup stands lawful st me n me' = subst (λ (m : Me S V). looked setup stands lawful st m n me') same told in
      let h = (told' t waits).0 hit in record {
        log = h.0;
        slot_content = h.1;
        now = h.2 ∙ ap (λ (cs : List (ℕ × S)). (record me.0 { phase = Acts t; seen = h.0 }, (0, Some h.1) ∷ cs)) bare;
        turn = subst (λ (x : ℕ). Turn setup stands lawful me.0 x h.0 h.1) hit h.3;
      }

  -- a pass that drew a ticket and found its turn
  pub acting_now : (s : Seat S V) (me me1 : Me S V) (t : ℕ) → t < 2 ^ 62 → me.0.kind ≡ Pass → me1 ≡ draws me t → Took setup stands lawful t me1 s.me → IsActing setup stands lawful s
  acting_now s me me1 t few pass drew k = record {
    slot_content = k.slot_content;
    ticket = t;
    pass = ap (λ (m : Me S V). m.0.kind) k.now ∙ (ap (λ (m : Me S V). m.0.kind) drew ∙ pass);
    acts = ap (λ (m : Me S V). m.0.phase) k.now;
    few = few;
    holds = ap (λ (m : Me S V). m.1) k.now;
    turn = subst (λ (m : Me S V). Turn setup stands lawful m.0 t m.0.seen k.slot_content) (sym k.now)
        record { longer_by = prefix_refl k.log; length_is = k.turn.length_is; own = k.turn.own; stands_for = k.turn.stands_for; set_up = k.turn.set_up; legal = k.turn.legal };
  }

  -- what a call leaves the pass with
  pub called : (g : G) (p : PassView C R G) (s s1 s2 s3 : Seat S V) (t : ℕ) (c : C) (a : R) → p ≡ pass_view s → p.setup ≡ Some g → s1.table_id ≡ s.table_id → s2.table_id ≡ s1.table_id → s3.table_id ≡ s2.table_id → t < 2 ^ 62 → s1.me ≡ draws s.me t
      → Took setup stands lawful t s1.me s2.me → s3.me ≡ (handed_on s2.me.0 c a, []) → ((k : G) → s2.me.0.setup ≡ Some k → lawful k s3.me.0.seen) → IsCalled lawful g p (pass_view s3) c a
  called g p s s1 s2 s3 t c a p_is set_up id1 id2 id3 few drew k handed legal =
      let v : V = s.me.0 in
      let mid : V = record v { ticket = t; phase = Acts t; seen = k.log } in
      let first : s1.me.0 ≡ record v { ticket = t; phase = Waits t } = ap (λ (m : Me S V). m.0) drew in
      let second : s2.me.0 ≡ mid = ap (λ (m : Me S V). m.0) k.now ∙ (λ i. record (first i) { phase = Acts t; seen = k.log }) in
      let third : s3.me.0 ≡ handed_on mid c a = ap (λ (m : Me S V). m.0) handed ∙ (λ i. handed_on (second i) c a) in
      let id : s3.table_id ≡ s.table_id = id3 ∙ (id2 ∙ id1) in
      let q0 : PassView C R G = record (pass_view s) { seen = k.log ++ entry v.number c a ∷ []; mine = v.mine ++ entry v.number c a ∷ []; ticket = t } in
      let q_is : pass_view s3 ≡ q0 = (λ i. record {
        table = id i;
        setup = (third i).setup;
        number = (third i).number;
        seen = (third i).seen;
        mine = (third i).mine;
        ticket = (third i).ticket;
        made = (third i).made;
        out = (third i).out;
        ended = (third i).ended;
      }) in
      let begins : IsPrefix v.seen k.log = subst (λ (l : List (Entry C R)). IsPrefix l k.log) (ap (λ (x : V). x.seen) first) k.turn.longer_by in
      let own : calls_of v.number k.log ≡ v.mine = subst (λ (x : V). calls_of x.number k.log ≡ x.mine) first k.turn.own in
      let law : lawful g (k.log ++ entry v.number c a ∷ []) = subst (λ (x : V). lawful g x.seen) third (legal g (ap (λ (x : V). x.setup) second ∙ (ap (λ (x : PassView C R G). x.setup) (sym p_is) ∙ set_up))) in
      subst (λ (x : PassView C R G × PassView C R G). IsCalled lawful g x.0 x.1 c a) (λ i. (sym p_is i, sym q_is i)) record {
        between = begins.0;
        history = ap (λ (l : List (Entry C R)). l ++ entry v.number c a ∷ []) (sym begins.1);
        legal = law;
        mine = refl;
        own = add_own k.log v.number c a v.mine own;
        below = few;
        same = refl;
      }

  -- what the end of a lock shows
  pub record Ends (key : G) (v : V) (held : S) : Type 0 where
    pub slot_content : Slot M C R
    pub held_is : held ≡ Some slot_content
    pub stands_for : stands slot_content.machine v.seen
    pub set_up : setup slot_content.machine ≡ key
    pub legal : lawful key v.seen
    pub own : calls_of v.number v.seen ≡ v.mine
    pub joined : (k : ℕ) (i : Item C R) → get_elem? v.ended k ≡ some i → calls_of i.number v.seen ≡ i.calls
    pub others : (n : ℕ) → n ≢ v.number → IsNotEnded v.ended n → calls_of n v.seen ≡ []
    pub apart : Apart v.ended
    pub count : v.made ≡ 1 + length v.ended

  pub closes : (key : G) (id : ℕ) (v : V) (ws : List ℕ) (xs : List S) (held : S) → Final (Seen (LockInvariant setup stands lawful key) id v) ws xs → v.kind ≡ Pass → v.phase ≡ Idle → v.number ≡ 0 → v.out ≡ 0 → get_elem? xs 0 ≡ some held → Ends key v held
  closes key id v ws xs held f pass rests root_is none_out got =
      let s = f.0 in let r = f.1.0 in let at = f.1.1 in
      let p = r.passes id v at pass in let k = seat_of setup stands lawful key s r id v at pass in
      let roots = p.root root_is in
      let zero_out : Rattle.table_lock.specs.Lock.outs s.views ≡ 0 = sym roots.1 ∙ none_out in
      let lone : (j : ℕ) (u : V) → get_elem? s.views j ≡ some u → u.kind ≡ Pass → v ≡ u =
      λ j u there is.
      let light : weight (name_of u) ≡ 0 = outs_none s.views j u zero_out there in
      let zero_name : u.number ≡ 0 = dite (dec_lt 0 u.number) (λ lt. (let w : weight (name_of u) ≡ 1 = ap weight (name_is setup stands lawful key u is) ∙ weight_one u.number lt in absurd (omega arith))) (λ n. omega arith) in
      let e : j ≡ id = r.apart j id 0 u v there at (name_is setup stands lawful key u is ∙ ap some zero_name) (name_is setup stands lawful key v pass ∙ ap some root_is) in
      one_value s.views id v u at (subst (λ (x : ℕ). get_elem? s.views x ≡ some u) e there) in
      let whole : v.seen ≡ r.log = ap (λ (x : V). x.seen) (lone r.whole.0 r.whole.1 r.whole.2 r.whole.3) ∙ r.whole.4 in
      let back : (P : List (Entry C R) → Type 0) → P r.log → P v.seen = λ P h. subst P (sym whole) h in
      let idle : Rattle.table_lock.specs.Lock.NoneActs s.views = λ j t u there is acts. (let same : v ≡ u = lone j u there is in let clash : Idle ≡ Acts t = sym rests ∙ (ap (λ (x : V). x.phase) same ∙ acts) in cc clash) in
      let h = r.home idle in record {
        slot_content = h.0;
        held_is = some-injective held (Some h.0) (sym got ∙ f.4 0 (Some h.0) h.1);
        stands_for = back (stands h.0.machine) h.2;
        set_up = h.3;
        legal = k.legal;
        own = p.known;
        joined = λ n i there. back (λ (l : List (Entry C R)). calls_of i.number l ≡ i.calls) (r.ends n i (subst (λ (l : List (Item C R)). get_elem? l n ≡ some i) roots.2 there)).calls_are;
        others = λ n ne gone.
            let gone' : IsNotEnded r.ended n = λ k i there. gone k i (subst (λ (l : List (Item C R)). get_elem? l k ≡ some i) (sym roots.2) there) in
            dite (dec_lt n r.made)
            (λ lt. (let c = r.covered n lt gone' in let m = name_pass setup stands lawful key c.1 n c.3 in let same = lone c.0 c.1 c.2 m.0 in absurd (ne (sym (ap (λ (x : V). x.number) same ∙ m.1)))))
            (λ ge. back (λ (l : List (Entry C R)). calls_of n l ≡ []) (r.unmade n (omega arith)));
        apart = subst (λ (l : List (Item C R)). Apart l) (sym roots.2) r.ended_apart;
        count = (let c = r.count in let made_is = roots.0 in let longest = ap (λ (l : List (Item C R)). length l) roots.2 in omega arith);
      }

  pub closed_is : (key g : G) (p : PassView C R G) (s : Seat S V) (held : S) → pass_view s ≡ p → key ≡ g → Ends key s.me.0 held → IsClosed lawful g p
  closed_is key g p s held p_is g_is h = subst (λ (x : G × PassView C R G). IsClosed lawful x.0 x.1) (λ i. (g_is i, p_is i)) record { legal = h.legal; own = h.own; joined = h.joined; others = h.others; apart = h.apart; count = h.count }

  pub machine_is : (key g : G) (p : PassView C R G) (s : Seat S V) (held : S) (d : Slot M C R) → pass_view s ≡ p → key ≡ g → held ≡ Some d → Ends key s.me.0 held → stands d.machine p.seen × (setup d.machine ≡ g)
  machine_is key g p s held d p_is g_is held_is h =
      let same : h.slot_content ≡ d = Rattle.table_lock.proofs.Keeps.same_slot setup stands lawful key ((0, held) ∷ []) h.slot_content d (ap (λ (x : S). (0, x) ∷ []) h.held_is) (ap (λ (x : S). (0, x) ∷ []) held_is) in
      (subst (λ (x : Slot M C R × PassView C R G). stands x.0.machine x.1.seen) (λ i. (same i, p_is i)) h.stands_for, ap (λ (x : Slot M C R). setup x.machine) (sym same) ∙ (h.set_up ∙ g_is))
