-- What the code's messages and faults stand for in the model. Assumes nothing.
use Rattle.std.specs.Prelude.{ℕ, List, take}
use Rattle.model.specs.Messages as model
use Rattle.message.specs.declared.chunk.Chunk.{Chunk}
use Rattle.message.specs.declared.fault.Fault.{Fault}
use Rattle.message.specs.declared.fault.Fault.TheVariants.{OutOfTurn, Uncountable, NeverStarted, BeyondWindow, TooManyTries}
use Rattle.message.specs.declared.to_server.Request.{Request}
use Rattle.message.specs.declared.to_server.Request.TheVariants.{Run, Input, OutputCredit, Eof, Close}
use Rattle.message.specs.declared.to_server.ToServer.{ToServer}
use Rattle.message.specs.declared.to_server.ToServer.TheVariants.{Login, Tick, For}
use Rattle.message.specs.declared.to_client.Reply.{Reply}
use Rattle.message.specs.declared.to_client.Reply.TheVariants.{Runs, Output, InputCredit, Exit}
use Rattle.message.specs.declared.to_client.ToClient.{ToClient}
use Rattle.message.specs.declared.to_client.ToClient.TheVariants.{Accepted, Tock, Of}

-- the bytes that a chunk holds
abbrev pub chunk_bytes : Chunk → List ℕ
chunk_bytes c = take c.len c.bytes

abbrev pub request : Request → model.Request
request (Run k) = model.Run k
request (Input c) = model.Input (chunk_bytes c)
request (OutputCredit n) = model.OutputCredit n
request Eof = model.Eof
request Close = model.Close

abbrev pub reply : Reply → model.Reply
reply (Runs b) = model.Runs b
reply (Output c) = model.Output (chunk_bytes c)
reply (InputCredit n) = model.InputCredit n
reply (Exit s) = model.Exit s

abbrev pub to_server : ToServer → model.ToServer
to_server (Login u p) = model.Login u p
to_server Tick = model.Tick
to_server (For t q) = model.For t (request q)

abbrev pub to_client : ToClient → model.ToClient
to_client (Accepted b) = model.Accepted b
to_client Tock = model.Tock
to_client (Of t m) = model.Of t (reply m)

abbrev pub fault : Fault → model.Fault
fault OutOfTurn = model.OutOfTurn
fault Uncountable = model.Uncountable
fault NeverStarted = model.NeverStarted
fault BeyondWindow = model.BeyondWindow
fault TooManyTries = model.TooManyTries
