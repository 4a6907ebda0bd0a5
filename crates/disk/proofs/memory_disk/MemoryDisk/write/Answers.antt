use Rattle.std.proofs.Common.{◌<◌, ◌≤◌, replicate, vec_items, vec_len, sym, refl, arith}
use Rattle.std.proofs.lemmas.Bool.{both_ways}
use Rattle.disk.specs.Memories.{memory_block}
use Rattle.disk.proofs.Kept.{down-stays, past_end, within, none_written, set-wrote}
use Rattle.disk.proofs.memory_disk.MemoryDisk.write.Goals as goal

pub returns-then-not-self : goal.returns-then-not-self
returns-then-not-self c =
    record {
      after = down-stays c.args.self.now c.args.b c.args.bytes.now c.if-not-self.true;
      answer = sym c.if-not-self.true;
      blocks = none_written (memory_block c.args.self.now) c.args.b c.args.bytes.now _ c.if-not-self.true;
      down = λ e. refl;
    }

pub returns-then-b-len : goal.returns-then-b-len
returns-then-b-len c =
    let h : vec_len c.args.self.now.blocks ≤ c.args.b = omega (arith, c.len.ensures, c.if-b-len.true) in
    record {
      after = past_end c.args.self.now c.args.b c.args.bytes.now c.if-not-self.false h;
      answer = refl;
      blocks = none_written (memory_block c.args.self.now) c.args.b c.args.bytes.now _ refl;
      down = λ e. absurd (both_ways _ e c.if-not-self.false);
    }

pub returns : goal.returns
returns c =
    let h : c.args.b < vec_len c.args.self.now.blocks = omega (arith, c.len.ensures, c.if-b-len.false) in
    record {
      after = within c.args.self.now c.args.b c.args.bytes.now c.if-not-self.false h;
      answer = sym c.if-not-self.false;
      blocks = set-wrote (vec_items c.args.self.now.blocks) (replicate 512 0) c.args.b c.args.bytes.now _ c.if-not-self.false (omega (arith, c.args.self.now.blocks.ok.0));
      down = λ e. absurd (both_ways _ e c.if-not-self.false);
    }
