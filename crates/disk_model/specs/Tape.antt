-- What a file in memory keeps.
use Rattle.std.specs.Prelude.{List}
use Rattle.disk_model.specs.declared.tape.Tape.{Tape}
use Rattle.disk_model.specs.Record.{Step, steps_of}

-- the writes and syncs of a tape
abbrev pub tape_steps : Tape → List Step
tape_steps t = steps_of t.marks.items t.written.items
