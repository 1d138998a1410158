-- The steps by which a rank keeps its promise, passed on from one place.
pub use Rattle.pg_colour.proofs.StepHandling.{opening_keeps, handling_keeps}
pub use Rattle.pg_colour.proofs.StepWorking.{colouring_keeps, sending_keeps}
pub use Rattle.pg_colour.proofs.StepRounds.{voting_keeps, going_on_keeps, ending_keeps}
