use Rattle.std.proofs.Common.{◌≡◌, ◌+◌, ap, ◌∙◌, sym, arith}
use Rattle.std.proofs.lemmas.List.{length-append, length-set, take_all}
use Rattle.sha256.specs.Rounds.{Schedule}
use Rattle.sha256.proofs.Turns.{schedule-none, schedule_more}
use Rattle.sha256.proofs.rounds.schedule.Goals as goal

pub loop-t-init : goal.loop-t-init
loop-t-init c = record {
  size = length-append c.copy_from_slice.new.self _ ∙ ap (λ n. n + 48) c.copy_from_slice.ensures.len;
  words = schedule-none c.args.block.now c.copy_from_slice.new.self _ c.copy_from_slice.ensures.after c.told-block;
}

pub loop-t-preserved : goal.loop-t-preserved
loop-t-preserved c = record {
  size = length-set c.loop-t.w _ _ ∙ c.loop-t.invariant.size;
  words = schedule_more c.args.block.now c.loop-t.w c.loop-t.t c.extend.result (omega arith) c.loop-t.invariant.words
      c.extend.ensures;
}

pub returns : goal.returns
returns c =
    let t : c.loop-t.t ≡ 48 = omega arith in
    sym (take_all (c.loop-t.t + 16) c.loop-t.w (omega arith)) ∙ c.loop-t.invariant.words ∙ ap (Schedule c.args.block.now) t
