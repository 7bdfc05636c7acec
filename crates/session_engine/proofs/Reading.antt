-- What a Get and a Flush ask for, as it was read.
use Rattle.std.specs.Prelude.{Ok, Err}
use Rattle.std.proofs.Common.{◌≡◌, ℕ, ℤ, List, Option, Some, None, refl, sym, ap, ◌∙◌, subst}
use Rattle.std.specs.Option.{option_map}
use Rattle.gribi_messages.specs.GetAndFlush.{get_request, flush_request}
use Rattle.grpc_heads.specs.GrpcStatus.{GrpcStatus}
use Rattle.table_model.specs.declared.command.Command.TheVariants as command
use Rattle.table_model.specs.declared.command.FlushBy.{FlushBy}
use Rattle.table_model.specs.declared.command.KindAsk.{KindAsk}
use Rattle.table_model.specs.declared.command.Which.{Which}
use Rattle.call_answers.specs.declared.orders.Setting.{Setting}
use Rattle.call_requests.specs.declared.asks.AskFault.{AskFault}
use Rattle.call_requests.specs.declared.asks.AskFault.TheVariants as fault
use Rattle.call_requests.specs.Asked.{ReadsFlush, ReadsGet, allowed_by, flush_message_refusal, get_message_refusal, kinds_of, which_asked}
use Rattle.call_orders.specs.Requests.{flush_asked, flush_of, get_asked, select_of, unless_refused}
use Rattle.session_engine.specs.declared.singles.Asked.{Asked}
use Rattle.session_engine.specs.declared.singles.Asked.TheVariants as asked
use Rattle.session_engine.specs.Singles.{AsksFor, IsRefusal}

pub get_reads : (s : Setting) (m : List ℕ) (w : Which) (k : KindAsk) → ReadsGet s (Ok (w, k)) (get_message_refusal s m) (get_request s.numbering m) → AsksFor (asked.Does (command.Select w k)) (get_asked s m)
unfolding get_asked
get_reads s m w k h = (
  ap (λ (r : Option GrpcStatus). unless_refused r (select_of (which_asked s.instances (get_request s.numbering m).instance) (kinds_of s.numbering (get_request s.numbering m).aft))) h.0
      ∙ (ap (λ (x : Option Which). unless_refused None (select_of x (kinds_of s.numbering (get_request s.numbering m).aft))) h.1 ∙ ap (λ (x : Option KindAsk). unless_refused None (select_of (Some w) x)) h.2),
  refl,
)

get_refused : (s : Setting) (m : List ℕ) (status : GrpcStatus) → get_message_refusal s m ≡ Some status → get_asked s m ≡ Err status
unfolding get_asked
get_refused s m status e = ap (λ (r : Option GrpcStatus). unless_refused r (select_of (which_asked s.instances (get_request s.numbering m).instance) (kinds_of s.numbering (get_request s.numbering m).aft))) e

pub get_refuses : (s : Setting) (m : List ℕ) (f : AskFault) (read : Asked) → ReadsGet s (Err f) (get_message_refusal s m) (get_request s.numbering m) → IsRefusal f read → AsksFor read (get_asked s m)
get_refuses s m (fault.Refused status) read h is = subst (λ (x : Asked). AsksFor x (get_asked s m)) (sym is) (get_refused s m status h)
get_refuses s m fault.NoMemory read h is = subst (λ (x : Asked). AsksFor x (get_asked s m)) (sym is) tt

pub flush_reads : (s : Setting) (m : List ℕ) (b : FlushBy) (w : Which) (now : ℤ) → ReadsFlush s (Ok (b, w)) (flush_message_refusal s m) (flush_request s.numbering m) → AsksFor (asked.Does (command.Flush b w now)) (flush_asked s m)
unfolding flush_asked
flush_reads s m b w now h = (
  ap (λ (r : Option GrpcStatus). unless_refused r (flush_of (option_map allowed_by (flush_request s.numbering m).election) (which_asked s.instances (flush_request s.numbering m).instance))) h.0
      ∙ (ap (λ (x : Option FlushBy). unless_refused None (flush_of x (which_asked s.instances (flush_request s.numbering m).instance))) h.1 ∙ ap (λ (x : Option Which). unless_refused None (flush_of (Some b) x)) h.2),
  refl,
)

flush_refused : (s : Setting) (m : List ℕ) (status : GrpcStatus) → flush_message_refusal s m ≡ Some status → flush_asked s m ≡ Err status
unfolding flush_asked
flush_refused s m status e =
    ap (λ (r : Option GrpcStatus). unless_refused r (flush_of (option_map allowed_by (flush_request s.numbering m).election) (which_asked s.instances (flush_request s.numbering m).instance))) e

pub flush_refuses : (s : Setting) (m : List ℕ) (f : AskFault) (read : Asked) → ReadsFlush s (Err f) (flush_message_refusal s m) (flush_request s.numbering m) → IsRefusal f read → AsksFor read (flush_asked s m)
flush_refuses s m (fault.Refused status) read h is = subst (λ (x : Asked). AsksFor x (flush_asked s m)) (sym is) (flush_refused s m status h)
flush_refuses s m fault.NoMemory read h is = subst (λ (x : Asked). AsksFor x (flush_asked s m)) (sym is) tt
