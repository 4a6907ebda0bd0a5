use Rattle.seal.proofs.Turning.{turned-is}
use Rattle.seal.proofs.way.Way.turn.Goals as goal

pub returns : goal.returns
returns c = λ s n h.
    turned-is c.args.self.now s n c.args.number c.nonce.result c.args.text.now c.apply.new.text c.apply.result h c.nonce.ensures c.requires c.apply.ensures
