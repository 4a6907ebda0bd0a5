use Rattle.std.proofs.Common.{refl, rules}
use Rattle.hmac.specs.Calls.{Prepared}
use Rattle.seal.specs.Frames.{way_key}
use Rattle.seal.proofs.way.Way.new.Goals as goal

pub returns : goal.returns
unfolding way_key
returns c =
    let s = c.args.secret.now in
    let p : Prepared c.unwrap-key.result s.key = search rules in
    record {
      key = c.finish.ensures s.key _ (c.begun.ensures s.key p);
      mac = c.begun-2.ensures s.key p;
      next = refl;
      nonces = search rules;
    }
