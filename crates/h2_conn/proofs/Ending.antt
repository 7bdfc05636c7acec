-- A connection whose side of a stream ends.
use Rattle.std.proofs.Common.{◌≡◌, ℕ, Bool, true, false, List, [], ◌∷◌, Option, Some, None, refl, sym, ap, subst, ◌∙◌}
use Rattle.std.specs.Prelude.{not, is_some, is_err, find, Result, Ok, Err, OnOk, ◌==◌, if◌then◌else◌}
use Rattle.h2_exchange.specs.declared.limits.H2Limits.{H2Limits}
use Rattle.h2_exchange.specs.declared.role.Role.{Role}
use Rattle.h2_exchange.specs.Content.{Outcome}
use Rattle.h2_exchange.specs.Exchange.{Step}
use Rattle.h2_exchange.specs.Stops.{request_bytes}
use Rattle.h2_exchange.specs.Streams.{is_live}
use Rattle.hpack_tables.specs.Writing.{Encoder}
use Rattle.h2_streams.specs.Set.{Set, at, begun}
use Rattle.h2_streams.proofs.Lists.{by_number}
use Rattle.h2_streams.proofs.Standing.{live_says}
use Rattle.http_connection.specs.ConnectionTrace.{ConnectionTrace}
use Rattle.h2_conn.specs.declared.asked.Asked.{Asked}
use Rattle.h2_conn.specs.Blocks.{over_if, closed_on, with_block}
use Rattle.h2_conn.specs.State.{State}
use Rattle.h2_conn.specs.Standing.{Stands}
use Rattle.h2_conn.specs.Watching.{Watch, IsWatched, IsAsked, asked_on, over_on, stop_by, without}
use Rattle.h2_conn.proofs.NextMessage.{asked_apart}

-- what holds where nothing failed
pub after_ok : {E P : Type 0} (r : Result (Unit {0}) E) (failed : Bool) → failed ≡ is_err r → failed ≡ false → OnOk r P → P
after_ok (Ok x) failed e f p = p
after_ok (Err y) failed e f p = absurd (let t : true ≡ false = sym e ∙ f in cc)

pub begun_state : (s : State) (id : ℕ) (text : List ℕ) (after : Encoder) (output : List ℕ) (set : Set) → output ≡ s.output → set ≡ begun id s.set →
    with_block id false text after (record s { output = output; set = set }) ≡ record (with_block id false text after s) { set = begun id s.set }
begun_state s id text after output set e f =
    ap (λ (o : List ℕ). with_block id false text after (record s { output = o; set = set })) e ∙ ap (λ (t : Set). with_block id false text after (record s { set = t })) f

none_by : (k : ℕ) (x : Asked) (rest : List Asked) (b : Bool) → (x.id == k) ≡ b → find (λ (a : Asked). a.id == k) rest ≡ None → find (λ (a : Asked). a.id == k) (if not b then x ∷ rest else rest) ≡ None
none_by k x rest true e h = h
none_by k x rest false e h = ap (λ (b : Bool). if b then Some x else find (λ (a : Asked). a.id == k) rest) e ∙ h

none_without : (k : ℕ) (xs : List Asked) → find (λ (a : Asked). a.id == k) (without k xs) ≡ None
none_without k [] = refl
none_without k (x ∷ xs) = none_by k x (without k xs) (x.id == k) refl (none_without k xs)

-- a stream that isn't live is forgotten
over_watched : (role : Role) (limits : H2Limits) (heads : List Outcome) (x : List Step) (k : ℕ) (w : Watch) → is_live role x k ≡ false → IsWatched role limits heads x w → IsWatched role limits heads x (over_on k w)
over_watched role limits heads x k w dead h = record {
  counts = h.counts;
  requests = λ id live. by_number (λ n. is_live role x n ≡ true → IsAsked (request_bytes limits heads role x n) (asked_on n (over_on k w))) k id
      (λ same l. absurd (let t : false ≡ true = sym dead ∙ sym (ap (is_live role x) same) ∙ l in cc))
      (λ other l. subst (λ (o : Option Asked). IsAsked (request_bytes limits heads role x id) o) (sym (asked_apart k id w other)) (h.requests id l))
      live;
  idle = λ id none.
      let i = h.idle id none in (
        i.0,
        by_number (λ n. asked_on n w ≡ None → asked_on n (over_on k w) ≡ None) k id
            (λ same e. ap (λ (n : ℕ). find (λ (a : Asked). a.id == n) (without k w.asked)) same ∙ none_without k w.asked)
            (λ other e. asked_apart k id w other ∙ e)
            i.1,
      );
}

with_watch : (s : State) (c : ConnectionTrace) (watch : Watch) → Stands s c → watch.is_passed ≡ s.watch.is_passed → (s.refusal ≡ None → IsWatched c.role c.limits c.heads c.frames watch) → Stands (record s { watch = watch }) c
with_watch s c watch h passed watched = record {
  role_is = h.role_is;
  limits_are = h.limits_are;
  refusal_is = h.refusal_is;
  holding_is = h.holding_is;
  last = h.last;
  encoder_is = h.encoder_is;
  kept = h.kept;
  resets = h.resets;
  credited = h.credited;
  goes = λ e.
      let a = h.goes e in
      record {
        reader_goes = a.reader_goes;
        reads = a.reads;
        place_is = a.place_is;
        set_is = a.set_is;
        set_role = a.set_role;
        set_limits = a.set_limits;
        decodes = a.decodes;
        block_is = a.block_is;
        given_is = a.given_is;
        acknowledged = a.acknowledged;
        stays = a.stays;
        watched = watched e;
        stop_is = a.stop_is ∙ ap stop_by (sym passed);
        last_is = a.last_is;
      };
}

over_by : (s : State) (c : ConnectionTrace) (k : ℕ) (b : Bool) → is_some (at k s.set) ≡ b → Stands s c → Stands (record s { watch = if b then s.watch else over_on k s.watch }) c
over_by s c k true e h = h
over_by s c k false e h = with_watch s c (over_on k s.watch) h refl (λ alive.
    let a = h.goes alive in
    let dead : is_live c.role c.frames k ≡ false = ap (λ (r : Role). is_live r c.frames k) (sym a.set_role) ∙ sym (live_says s.set c.frames k (is_some (at k s.set)) refl a.set_is) ∙ e in
    over_watched c.role c.limits c.heads c.frames k s.watch dead a.watched)

pub overs : (s : State) (c : ConnectionTrace) (k : ℕ) → Stands s c → Stands (over_if k s) c
overs s c k h = over_by s c k (is_some (at k s.set)) refl h

pub closes_on : (s : State) (c : ConnectionTrace) (k : ℕ) (last : Bool) → Stands s c → Stands (closed_on k last s) c
closes_on s c k true h = overs s c k h
closes_on s c k false h = h
