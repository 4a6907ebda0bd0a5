-- What is compared by name.
use Rattle.record.proofs.Same.{bytes-same}

pub ruleset names = (bytes-same)
