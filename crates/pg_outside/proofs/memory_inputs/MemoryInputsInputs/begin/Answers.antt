use Rattle.std.proofs.Common.{refl, inl}
use Rattle.pg_outside.proofs.memory_inputs.MemoryInputsInputs.begin.Goals as goal

pub returns-then-fails-clause-fails : goal.returns-then-fails-clause-fails
returns-then-fails-clause-fails c =
    let listed = c.take_call-fails.ensures.fails in
    let fails = c.if-fails.true in
    let items = c.as_slice.ensures.value in
    (λ _. inl cc, λ _. refl)
