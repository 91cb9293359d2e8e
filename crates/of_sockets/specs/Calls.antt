-- What the calls of a socket or of a file mean.
use Rattle.std.specs.Prelude.{ℕ, suc, zero, Bool, true, Option, Some, None, Result, Ok, Err, if◌then◌else◌}
use Rattle.std.specs.{declared.io.Error.Error, declared.io.ErrorKind.ErrorKind, IoError.error_kind}
use Rattle.std.specs.declared.io.ErrorKind.TheVariants as kind
use Rattle.of_replay.specs.{Passing.passes, declared.event_file.Ended.Ended, declared.event_file.Ended.TheVariants.NoMemory, declared.event_file.Ended.TheVariants.ReadFault}
use Rattle.of_replay.specs.declared.io.Reading.{Reading}
use Rattle.of_replay.specs.declared.io.Reading.TheVariants as reading
use Rattle.of_sockets.specs.{declared.calls.Ending.Ending, declared.calls.Attempt.Attempt}
use Rattle.of_sockets.specs.declared.calls.Ending.TheVariants as ending
use Rattle.of_sockets.specs.declared.calls.Attempt.TheVariants as attempt

-- an accept found nobody, or one who was gone again
abbrev pub is_nobody : ErrorKind → Bool
is_nobody kind.ConnectionAborted = true
is_nobody kind = passes kind

-- A READ of a connection: no bytes are the end of its stream
abbrev pub read_answer : Result ℕ Error → Reading
read_answer (Ok zero) = reading.End
read_answer (Ok (suc n)) = reading.Bytes (suc n)
read_answer (Err e) = if passes (error_kind e) then reading.Nothing else reading.Fault

-- and why the connection ends with it
abbrev pub ends_with : Reading → Option Ending
ends_with (reading.Bytes n) = None
ends_with reading.Nothing = None
ends_with reading.End = Some ending.ByController
ends_with reading.Fault = Some ending.ReadFailed

-- A WRITE to a connection: one that was interrupted is made again, and one that waited for too long is that of a controller that reads nothing
abbrev pub refused_write : ErrorKind → Attempt
refused_write kind.Interrupted = attempt.Again
refused_write kind.WouldBlock = attempt.Failed ending.ReadsNothing
refused_write kind.TimedOut = attempt.Failed ending.ReadsNothing
refused_write _ = attempt.Failed ending.WriteFailed

abbrev pub write_as : Result ℕ Error → Attempt
write_as (Ok zero) = attempt.Failed ending.WriteFailed
write_as (Ok (suc n)) = attempt.Took (suc n)
write_as (Err e) = refused_write (error_kind e)

-- A FILE THAT DOES NOT OPEN is one that cannot be read, unless memory ran out
abbrev pub unopened : ErrorKind → Ended
unopened kind.OutOfMemory = NoMemory
unopened _ = ReadFault
