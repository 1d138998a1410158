use Rattle.pg_colour.proofs.Stepping.{opening_keeps, handling_keeps, colouring_keeps, sending_keeps, voting_keeps, going_on_keeps, ending_keeps}
use Rattle.pg_colour.proofs.laws.steps.Goals as goal

pub returns : goal.returns
returns c = record {
  opening = opening_keeps;
  handling = handling_keeps;
  colouring = colouring_keeps;
  sending = sending_keeps;
  voting = voting_keeps;
  going_on = going_on_keeps;
  ending = ending_keeps;
}
