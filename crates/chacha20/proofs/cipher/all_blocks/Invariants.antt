use Rattle.std.proofs.Common.{◌*◌}
use Rattle.chacha20.proofs.Texts.{XoredTo}
use Rattle.chacha20.proofs.cipher.all_blocks.Given as goal

abbrev pub invariant-loop-i : goal.invariant-loop-i
invariant-loop-i l = XoredTo l.initial.text l.s (256 * l.i) l.text
