use Rattle.record.proofs.Coding.{decode-encode, decode-held}
use Rattle.record.proofs.code.reads_back.Goals as goal

pub returns : goal.returns
returns c = (decode-encode, λ y r e. let h = decode-held y r e in (h.bytes, h.sense))
