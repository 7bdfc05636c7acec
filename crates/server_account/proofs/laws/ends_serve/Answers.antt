use Rattle.server_account.proofs.Ends.{calm_serves, refused_serves, settled_serves, unread_serves}
use Rattle.server_account.proofs.laws.ends_serve.Goals as goal

pub returns : goal.returns
returns c = λ s output calls actions past last. record {
  settled = λ t rest outcome h settled closed is cause. settled_serves s t output rest calls actions past last outcome h.server h.told h.handled settled closed is cause;
  refused = λ t u why place h stops closed. refused_serves s t u output why place calls actions past last h.server h.told stops h.handled closed;
  calm = λ t u rest cause h stops closed. calm_serves s t u output rest cause calls actions past last h.server h.told stops h.handled closed;
  unread = λ t told late rest next left outcome server may is pieces quiet each unended reported taken behind did over unread cause.
      unread_serves s t output told late rest actions past next last left outcome server may is pieces quiet each unended reported taken behind did over unread cause;
}
