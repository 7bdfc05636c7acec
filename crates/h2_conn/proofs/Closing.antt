-- Events that were to be told are told.
use Rattle.std.proofs.Common.{◌≡◌, List, [], ◌++◌, None, refl, sym, ◌∙◌}
use Rattle.std.proofs.lemmas.List.{append_assoc}
use Rattle.h2_exchange.specs.Events.{Event}
use Rattle.h2_exchange.specs.Sending.{ResetsErrors}
use Rattle.http_connection.specs.ConnectionTrace.{ConnectionTrace}
use Rattle.h2_conn.specs.State.{State}
use Rattle.h2_conn.specs.Standing.{Kept, Going, Stands, HasCredit, ends_of}

abbrev pub told : List Event → ConnectionTrace → ConnectionTrace
told es c = record c { given = c.given ++ es; refusal = None }

pub closes : (t : State) (c : ConnectionTrace) (es : List Event) → c.role ≡ t.role → c.limits ≡ t.limits → t.refusal ≡ None → c.is_holding ≡ t.is_holding → Kept c t.output t.encoder → Going t c (es ++ ends_of t.ended) [] →
    ResetsErrors c.role c.limits c.heads c.frames → HasCredit t.is_holding c.role c.limits c.frames → Stands t (told es c)
closes t c es role limits alive holding kept a resets credited = record {
  role_is = role;
  limits_are = limits;
  refusal_is = sym alive;
  holding_is = holding;
  last = t.encoder;
  encoder_is = λ e. refl;
  kept = record {
    front = kept.front;
    within = kept.within;
    text = kept.text;
    read = kept.read;
    spelled = kept.spelled;
    writable = kept.writable;
    closed = kept.closed;
    given = (ends_of t.ended, a.given_is ∙ sym (append_assoc c.given es (ends_of t.ended)));
    placed = kept.placed;
    acknowledged = kept.acknowledged;
    windows = kept.windows;
  };
  resets = resets;
  credited = λ e. credited;
  goes = λ e. record {
    reader_goes = a.reader_goes;
    reads = a.reads;
    place_is = a.place_is;
    set_is = a.set_is;
    set_role = a.set_role;
    set_limits = a.set_limits;
    decodes = a.decodes;
    block_is = a.block_is;
    given_is = a.given_is ∙ sym (append_assoc c.given es (ends_of t.ended));
    acknowledged = a.acknowledged;
    stays = a.stays;
    watched = a.watched;
    stop_is = a.stop_is;
    last_is = a.last_is;
  };
}
