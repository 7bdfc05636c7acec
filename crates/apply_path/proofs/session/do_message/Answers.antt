use Rattle.std.proofs.Common.{◌∙◌, sym, refl}
use Rattle.apply_path.specs.Responses.{config_of}
use Rattle.apply_path.proofs.Handling.{rests_mid, reports_mid, message_done, message_ended, message_lacks}
use Rattle.apply_path.proofs.session.do_message.Goals as goal

pub do_turns-requires : goal.do_turns-requires
do_turns-requires g c =
    let s = c.args.setting.now in
    let past = c.requires.stood.0 in
    let k = c.in-Continue.ensures (config_of s) past c.requires.stood.1 in
    let rests = rests_mid s (c.others_keep_shard.ensures (config_of s)) c.args.number c.args.request.now past c.requires.stood.2 c.do_request.new.core _ _ k in
    record { number = c.requires.number; rest = (config_of s, k.now, k.stood, rests.takes) }

pub returns-in-Continue : goal.returns-in-Continue
returns-in-Continue g c = λ past said stood takes counted.
    let s = c.args.setting.now in
    let law = c.others_keep_shard.ensures (config_of s) in
    let k = c.in-Continue.ensures (config_of s) past stood in
    let rests = rests_mid s law c.args.number c.args.request.now past takes c.do_request.new.core _ _ k in
    message_done s law c.args.number c.args.request.now past takes c.do_request.new.core _ _ k said c.do_turns.new.core _ _ c.do_turns.result
    (c.do_turns.ensures (config_of s) k.now said k.stood rests.takes (counted ∙ sym (reports_mid s law c.args.number c.args.request.now past takes c.do_request.new.core _ _ k)))

pub returns-in-Ends : goal.returns-in-Ends
returns-in-Ends g c = λ past said stood takes counted.
    let s = c.args.setting.now in
    message_ended s (c.others_keep_shard.ensures (config_of s)) c.args.number c.args.request.now past takes c.do_request.new.core said _ c.in-Ends.code _ _ counted refl refl (c.in-Ends.ensures (config_of s) past stood)

pub returns-in-Unreadable : goal.returns-in-Unreadable
returns-in-Unreadable g c = λ past said stood takes counted. absurd (c.in-Unreadable.ensures (config_of c.args.setting.now) past stood)

pub returns-in-NoMemory : goal.returns-in-NoMemory
returns-in-NoMemory g c = λ past said stood takes counted.
    let s = c.args.setting.now in
    message_lacks s (c.others_keep_shard.ensures (config_of s)) c.args.number c.args.request.now past takes c.do_request.new.core said _ _ _ refl (c.in-NoMemory.ensures (config_of s) past stood)
