-- What a connection says again, and the end of a stream that it told later.
use Rattle.std.proofs.Common.{◌≡◌, ℕ, List, [], ◌∷◌, ◌++◌, Option, Some, None, inl, refl, sym, ap, subst, ◌∙◌}
use Rattle.std.proofs.lemmas.List.{append-nil}
use Rattle.h2_exchange.specs.Content.{Outcome}
use Rattle.h2_exchange.specs.Events as event
use Rattle.h2_exchange.specs.Exchange.{Step}
use Rattle.http_connection.specs.declared.event.H2Event.{H2Event}
use Rattle.http_connection.specs.Answers.{Answers, GivesEvents, ends, after}
use Rattle.http_connection.specs.ConnectionTrace.{ConnectionTrace}
use Rattle.h2_conn.specs.declared.conn.Why.{Why}
use Rattle.h2_conn.specs.declared.conn.Why.TheVariants as was
use Rattle.h2_conn.specs.Hears.{event_of_refusal}
use Rattle.h2_conn.specs.State.{State, refusal_by}
use Rattle.h2_conn.specs.Standing.{Stands, ends_of}

again_by : (c : ConnectionTrace) (why : Why) → c.refusal ≡ refusal_by (Some why) → Answers c (event_of_refusal why) c
again_by c (was.Broken code place) e = inl (e, refl)
again_by c (was.Calm cause) e = inl (e, refl)
again_by c was.NoMemory e = inl (e, refl)

pub again : (s : State) (c : ConnectionTrace) (why : Why) (said : H2Event) → Stands s c → s.refusal ≡ refusal_by (Some why) → said ≡ event_of_refusal why → Answers c said c
again s c why said h e f = subst (λ (x : H2Event). Answers c x c) (sym f) (again_by c why (h.refusal_is ∙ e))

-- the end that was still to be told
pub told_end : (s : State) (c : ConnectionTrace) (id : ℕ) → Stands s c → s.refusal ≡ None → s.ended ≡ Some id → (d : ConnectionTrace) × Stands (record s { ended = None }) d × GivesEvents c (event.Ended id ∷ []) d
told_end s c id h alive some =
    let a = h.goes alive in
    let unrefused : c.refusal ≡ None = h.refusal_is ∙ alive in
    let es : c.given ++ ends_of s.ended ≡ (c.given ++ event.Ended id ∷ []) ++ [] = ap (λ (o : Option ℕ). c.given ++ ends_of o) some ∙ sym (append-nil (c.given ++ event.Ended id ∷ [])) in
    let stands : Stands (record s { ended = None }) (record c { given = c.given ++ event.Ended id ∷ []; refusal = None }) = record {
      role_is = h.role_is;
      limits_are = h.limits_are;
      refusal_is = sym alive;
      holding_is = h.holding_is;
      last = h.last;
      encoder_is = h.encoder_is;
      kept = record {
        front = h.kept.front;
        within = h.kept.within;
        text = h.kept.text;
        read = h.kept.read;
        spelled = h.kept.spelled;
        writable = h.kept.writable;
        closed = h.kept.closed;
        given = ([], a.given_is ∙ es);
        placed = h.kept.placed;
        acknowledged = h.kept.acknowledged;
        windows = h.kept.windows;
      };
      resets = h.resets;
      credited = h.credited;
      goes = λ e. record {
        reader_goes = a.reader_goes;
        reads = a.reads;
        place_is = a.place_is;
        set_is = a.set_is;
        set_role = a.set_role;
        set_limits = a.set_limits;
        decodes = a.decodes;
        block_is = a.block_is;
        given_is = a.given_is ∙ es;
        acknowledged = a.acknowledged;
        stays = a.stays;
        watched = a.watched;
        stop_is = a.stop_is;
        last_is = a.last_is;
      };
    } in (
      after [] [] (event.Ended id ∷ []) None c,
      subst (λ (x : List Step). Stands (record s { ended = None }) (record c { frames = x; heads = c.heads ++ []; given = c.given ++ event.Ended id ∷ []; refusal = None })) (sym (append-nil c.frames))
          (subst (λ (hs : List Outcome). Stands (record s { ended = None }) (record c { heads = hs; given = c.given ++ event.Ended id ∷ []; refusal = None })) (sym (append-nil c.heads)) stands),
      record { alive = unrefused; more = []; outcomes = []; receives = ends c.frames; goes_on = refl },
    )
