mod Asked
mod BothRounds
mod LaidRow
mod TriedRow
