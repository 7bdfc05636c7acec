use Rattle.line_requests.proofs.Hops.{hop_is}
use Rattle.line_requests.proofs.entry.hop.Goals as goal

pub returns-clause-hop : goal.returns-clause-hop
returns-clause-hop c =
    hop_is _ _ _ _ _ _ _ _ _ _ _ _ _ c.text_option.ensures.rest c.text_option-2.ensures.rest c.text_option-3.ensures.rest
    c.number_option-subinterface.ensures.rest c.tunnel_option.ensures.rest c.in_ok-ip.ensures.text c.in_ok-mac.ensures.text
    c.in_ok-interface.ensures.text c.number_option-subinterface.ensures.value c.in_ok-source.ensures.source c.in_ok-source.ensures.target
    c.in_ok-push.ensures.labels
