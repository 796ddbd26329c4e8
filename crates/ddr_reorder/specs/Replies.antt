-- What is lent of the outstanding numbers whose lines have come back.
use Rattle.std.specs.Prelude.{ℕ, ◌+◌, ◌%◌, ◌==◌, Bool, List, [], length, Option, is_some, slice_get, slice_range}
use Rattle.std.specs.List.{find, take_while}
use Rattle.std.specs.Option.{option_map, option_and_then}
use Rattle.ddr_timing.specs.declared.units.TheConstants.{LINE_BYTES}
use Rattle.ddr_address_map.specs.declared.request.Echo.{Echo}
use Rattle.ddr_address_map.specs.declared.request.Kind.{Kind}
use Rattle.ddr_address_map.specs.declared.request.Kind.TheVariants.{Read, Write}
use Rattle.ddr_reorder.specs.declared.reply.Reply.{Reply}
use Rattle.ddr_reorder.specs.declared.reply.Service.{Service}
use Rattle.ddr_reorder.specs.State.{Outstanding, ReorderState}

-- a reply: the request's number and echo, and for a read its bytes
pub record Answer : Type 0 where
  pub number : ℕ
  pub echo : Echo
  pub bytes : List ℕ

-- what a lent reply says
abbrev pub said : Reply → Answer
said r = record { number = r.number; echo = r.echo; bytes = r.bytes.now }

-- when its request was served, as the lent reply tells
abbrev pub lent_service : Reply → Service
lent_service r = record { issued = r.issued; due = r.due }

-- the bytes asked for of a line, from this offset on: for a write none
abbrev pub asked_bytes : Kind → ℕ → ℕ → List ℕ → List ℕ
asked_bytes Read offset len line = slice_range line offset (offset + len)
asked_bytes Write offset len line = []

abbrev pub lent_bytes : Echo → List ℕ → List ℕ
lent_bytes echo line = asked_bytes echo.kind (echo.addr % LINE_BYTES) echo.len line

-- how many bytes that are
abbrev pub asked_count : Kind → ℕ → ℕ
asked_count Read len = len
asked_count Write len = 0

abbrev pub lent_count : Echo → ℕ
lent_count echo = asked_count echo.kind echo.len

-- the reply to an outstanding number, once its line has come back
abbrev pub answer_of : Outstanding → Option Answer
answer_of o = option_map (λ line. record { number = o.number; echo = o.echo; bytes = lent_bytes o.echo line }) o.line

abbrev pub is_filled : Outstanding → Bool
is_filled o = is_some o.line

-- the oldest numbers, as far as each line has come back
abbrev pub filled_prefix : ReorderState → List Outstanding
filled_prefix s = take_while is_filled s.outstanding

-- how many replies stand ready
abbrev pub ready_count : ReorderState → ℕ
ready_count s = length (filled_prefix s)

-- the k-th of the replies that stand ready, from 0
abbrev pub nth_answer : ReorderState → ℕ → Option Answer
nth_answer s k = option_and_then answer_of (slice_get (filled_prefix s) k)

-- when its request was served
abbrev pub nth_service : ReorderState → ℕ → Option Service
nth_service s k = option_and_then (λ o. o.service) (slice_get (filled_prefix s) k)

-- the number of the oldest reply, where it stands ready
abbrev pub front_number : ReorderState → Option ℕ
front_number s = option_map (λ answer. answer.number) (nth_answer s 0)

-- the outstanding number, where it is one
abbrev pub has_number : ℕ → Outstanding → Bool
has_number number o = o.number == number

abbrev pub outstanding_at : ReorderState → ℕ → Option Outstanding
outstanding_at s number = find (has_number number) s.outstanding

-- the reply to it, once its line has come back, whether or not older ones stand ready
abbrev pub served_answer : ReorderState → ℕ → Option Answer
served_answer s number = option_and_then answer_of (outstanding_at s number)

-- when its request was served
abbrev pub served_service : ReorderState → ℕ → Option Service
served_service s number = option_and_then (λ o. o.service) (outstanding_at s number)
