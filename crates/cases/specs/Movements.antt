-- C-19, "Movements through the day": answers and both lent buffers, computed from bytes to bytes; and what a hasty reader would make of it, each reading told apart by a case.
-- Numbers and places in their order are in MovementAnswers, the bytes of single movements in day.specs.MovementTable.
use Rattle.std.specs.Prelude.{Bool, not, ◌&&◌, List, [], ◌∷◌, ◌++◌, ℕ, ◌+◌, ◌*◌, ◌-◌, T, length, take, drop, replicate, Ok, Err}
use Rattle.words.specs.Words.{◌≤?◌, ◌=?◌, every}
use Rattle.wire.specs.Bytes.{u64_at, bytes64, placed}
use Rattle.refusal.specs.declared.Refusal.TheVariants.{BufferShort, Movement as absent}
use Rattle.refusal.specs.Refusals.{number_of, place_of}
use Rattle.refusal.specs.Chain.{refuse◌unless◌, ◌and_then◌, Answer, Checked}
use Rattle.schedule.specs.Check.{schedule_check}
use Rattle.book.specs.Records.{asset_size, N, K, total, asset_start, mitigant_start, asset_at}
use Rattle.book.specs.Build.{desk_asset, mitigant, desk_bytes}
use Rattle.book_checks.specs.Checks.{book_checks}
use Rattle.report.specs.Answer.{report_of}
use Rattle.movement.specs.Raw.{slice, raw_from, raw_holdings, front_of, made_of}
use Rattle.movement.specs.Movement.{book_in, with_asset, without_asset, Movement, Add, Remove, resulting, possible, present}
use Rattle.day.specs.Moving.{movement_check, movement_answer}
use Rattle.day.specs.Day.{Buffers, after_one, after_all, not_refused, afresh}
use Rattle.examples.specs.Build.{covered, plain, reinsured, entered, usual, specialist, name, bank, t2}
use Rattle.examples.specs.Reading.{printed, line}
use Rattle.examples.specs.Table.{published_bytes, same, accepted, turned}
use Rattle.examples.specs.Opened.{report_computed}

-- what a movement answers and leaves, with every definition on the way opened
unfoldable movement_computed : List ℕ → List ℕ → List ℕ
unfolding report_computed book_in with_asset without_asset raw_from raw_holdings front_of made_of present book_checks movement_check movement_answer after_all not_refused
movement_computed s b = report_of s b

-- ---- what a case says

-- bytes of a buffer that are no part of a book or a report
abbrev lent : ℕ → List ℕ
lent n = replicate n 7

-- under the published schedule: the answer, and what is left in both buffers
abbrev answer : List ℕ → Movement → ℕ → Answer
answer buffer m room = movement_answer published_bytes m buffer room

abbrev reported : List ℕ → List ℕ
reported book = report_of published_bytes book

abbrev buffers : List ℕ → List ℕ → Buffers
buffers book report = record { book = book; report = report }

abbrev hold : Buffers → List ℕ → List ℕ → Bool
hold d book report = same d.book book && same d.report report

abbrev leaves : List ℕ → List ℕ → Movement → List ℕ → List ℕ → Bool
leaves book report m book' report' = hold (after_one published_bytes (buffers book report) m) book' report'

-- "changes nothing"
abbrev untouched : List ℕ → List ℕ → Movement → Bool
untouched book report m = leaves book report m book report

-- ---- T2 and the halves of it: 140 and 92 bytes, with reports of 152 and 112

abbrev other : List ℕ
other = plain 6 1 300000000

abbrev one : List ℕ
one = usual (name ∷ []) (plain 11 1 300000000 ∷ []) []

abbrev second : List ℕ
second = usual (name ∷ []) (other ∷ []) []

unfoldable buffers_right : List Bool
buffers_right =
    -- T2 out of its half, in buffers that are just long enough, and in longer ones: "bytes past the new end stay"
    accepted (answer (one ++ lent 48) (Add other) 152) 152
    ∷ leaves (one ++ lent 48) (lent 152) (Add other) t2 (reported t2)
    ∷ leaves (one ++ lent 51) (lent 155) (Add other) (t2 ++ lent 3) (reported t2 ++ lent 3)
    -- "16 where either buffer is short": the book's by a byte, and with room for the book as it stands alone; the report's by a byte; both
    ∷ turned (answer (one ++ lent 47) (Add other) 152) 16 0
    ∷ untouched (one ++ lent 47) (lent 152) (Add other)
    ∷ turned (answer one (Add other) 152) 16 0
    ∷ turned (answer (one ++ lent 48) (Add other) 151) 16 0
    ∷ untouched (one ++ lent 48) (lent 151) (Add other)
    ∷ turned (answer (one ++ lent 47) (Add other) 151) 16 0
    -- behind the new book's own refusals
    ∷ turned (answer one (Add (plain 12 1 1)) 0) 11 2
    ∷ turned (answer one (Add (covered 11 1 1 6)) 0) 13 0
    ∷ turned (answer one (Add (reinsured 1 0 10000000001)) 0) 14 0
    -- 22 leaves both as they are; no buffer is looked at before it
    ∷ turned (answer one (Remove 2) 0) 22 0
    ∷ untouched one (lent 112) (Remove 2)
    ∷ untouched (one ++ lent 48) (lent 152) (Add (other ++ (0 ∷ [])))
    -- a removal: the last 48 bytes of T2 stay behind the new end, whichever asset goes; the report is the shorter one
    ∷ leaves t2 (lent 112) (Remove 2) (one ++ drop 92 t2) (reported one)
    ∷ leaves t2 (lent 112) (Remove 1) (second ++ drop 92 t2) (reported second)
    ∷ turned (answer t2 (Remove 2) 111) 16 0
    -- the last asset: a header and a counterparty, and a report without lines
    ∷ leaves one (lent 72) (Remove 1) (usual (name ∷ []) [] [] ++ drop 44 one) (reported (usual (name ∷ []) [] []))
    -- added, then taken away: the old bytes, "but for what stands past the end"
    ∷ hold (after_all published_bytes (buffers (one ++ lent 50) (lent 152)) (Add other ∷ Remove 2 ∷ [])) (one ++ (other ++ lent 2)) (reported one ++ drop 112 (reported t2))
    -- 1 to 4 before all, whatever the book and the movement
    ∷ turned (movement_answer (take 121 published_bytes) (Remove 0) [] 0) 1 0
    ∷ turned (movement_answer (placed published_bytes 4 (3 ∷ [])) (Add other) (one ++ lent 48) 152) 3 0
    -- version 2, with desk 9 for the new asset; a specialist fund
    ∷ leaves (desk_bytes 10000000000 1000000000 0 (name ∷ []) (plain 11 1 300000000 ∷ []) [] ++ lent 48) (lent 152) (Add (desk_asset 9 6 0 0 0 1 0 300000000 0 0 0 0))
    (desk_bytes 10000000000 1000000000 0 (name ∷ []) (plain 11 1 300000000 ∷ desk_asset 9 6 0 0 0 1 0 300000000 0 0 0 0 ∷ []) []) (reported t2)
    ∷ leaves (specialist (name ∷ []) (entered 3 4 1 50 ∷ []) [] ++ lent 48) (lent 152) (Add other) (specialist (name ∷ []) (entered 3 4 1 50 ∷ other ∷ []) []) (reported (specialist (name ∷ []) (entered 3 4 1 50 ∷ other ∷ []) []))
    ∷ []

buffers-hold : T (every (λ t. t) buffers_right)
unfolding movement_computed buffers_right
buffers-hold = tt

-- ---- C-18: an added treaty changes what an earlier one covers, by half of its own net; taken away, the half is what it was

abbrev treaties : List (List ℕ) → List ℕ
treaties assets = usual (name ∷ bank ∷ []) assets (mitigant 5 8 2 101 ∷ [])

abbrev day₁ : Buffers
day₁ = after_all published_bytes (buffers (treaties (reinsured 1 1 101 ∷ []) ++ lent 48) (lent 152)) (Add (reinsured 1 0 99) ∷ [])

unfoldable halves_right : List Bool
halves_right =
    same (printed (reported (treaties (reinsured 1 1 101 ∷ [])))) (line 1 1 51 250000000 250000000 0 ++ line 2 11 50 2500000000 2500000000 0)
    ∷ same (printed day₁.report) (line 1 1 100 250000000 250000000 0 ++ line 2 11 100 2500000000 2500000000 0)
    ∷ same (printed (after_one published_bytes day₁ (Remove 2)).report) (line 1 1 51 250000000 250000000 0 ++ line 2 11 50 2500000000 2500000000 0)
    ∷ []

halves-hold : T (every (λ t. t) halves_right)
unfolding movement_computed halves_right
halves-hold = tt

-- ---- a day: the second and the fourth movement are refused, by 22 and 11

abbrev movements : List Movement
movements = Add other ∷ Remove 3 ∷ Remove 1 ∷ Add (plain 12 1 1) ∷ Add (plain 8 1 70) ∷ []

abbrev start : Buffers
start = buffers (one ++ lent 100) (lent 200)

abbrev present₃ : List ℕ
present₃ = usual (name ∷ []) (other ∷ plain 8 1 70 ∷ []) []

unfoldable day_right : List Bool
day_right =
    (length (not_refused published_bytes start movements) =? 3)
    ∷ same (book_in (after_all published_bytes start movements).book) present₃
    ∷ same (afresh one (not_refused published_bytes start movements)) present₃
    ∷ same (take (length (reported present₃)) (after_all published_bytes start movements).report) (reported present₃)
    ∷ []

day-holds : T (every (λ t. t) day_right)
unfolding movement_computed day_right
day-holds = tt

-- ---- other readings of the checks, each beside the case that tells it apart

abbrev fits : List ℕ → List ℕ → List ℕ → ℕ → Checked
fits schedule new buffer room = refuse BufferShort unless length new ≤? length buffer && length (report_of schedule new) ≤? room

abbrev there : List ℕ → Movement → Checked
there b m = refuse absent unless possible b m

abbrev Reading : Type 0
Reading = List ℕ → Movement → List ℕ → ℕ → Checked

-- 22 before the book as it stands; behind the book that it makes
abbrev first22 : Reading
first22 s m buffer room = let b = book_in buffer in schedule_check s and_then there b m and_then book_checks b and_then book_checks (resulting b m) and_then fits s (resulting b m) buffer room

abbrev last22 : Reading
last22 s m buffer room = let b = book_in buffer in schedule_check s and_then book_checks b and_then book_checks (resulting b m) and_then there b m and_then fits s (resulting b m) buffer room

-- the book as it stands not looked at
abbrev new_alone : Reading
new_alone s m buffer room = let b = book_in buffer in schedule_check s and_then there b m and_then book_checks (resulting b m) and_then fits s (resulting b m) buffer room

-- 16 before the new book; of the report's buffer alone; of the book's alone
abbrev first16 : Reading
first16 s m buffer room = let b = book_in buffer in schedule_check s and_then book_checks b and_then there b m and_then fits s (resulting b m) buffer room and_then book_checks (resulting b m)

abbrev report16 : Reading
report16 s m buffer room = let b = book_in buffer in schedule_check s and_then book_checks b and_then there b m and_then book_checks (resulting b m) and_then (refuse BufferShort unless length (report_of s (resulting b m)) ≤? room)

abbrev book16 : Reading
book16 s m buffer room = let b = book_in buffer in schedule_check s and_then book_checks b and_then there b m and_then book_checks (resulting b m) and_then (refuse BufferShort unless length (resulting b m) ≤? length buffer)

-- all of the buffer is the book
abbrev whole_buffer : Reading
whole_buffer s m b room = schedule_check s and_then book_checks b and_then there b m and_then book_checks (resulting b m) and_then fits s (resulting b m) b room

abbrev found : Checked → List ℕ
found (Ok _) = []
found (Err why) = number_of why ∷ place_of why ∷ []

record Misread : Type 0 where
  reading : Reading
  movement : Movement
  buffer : List ℕ
  room : ℕ

abbrev misread : Reading → List ℕ → Movement → ℕ → Misread
misread r buffer m room = record { reading = r; movement = m; buffer = buffer; room = room }

abbrev caught : Misread → Bool
caught c = not (same (found (c.reading published_bytes c.movement c.buffer c.room)) (found (movement_check published_bytes c.movement c.buffer c.room)))

unfoldable misreadings : List Misread
misreadings =
    misread first22 (take 91 one) (Remove 2) 152
    ∷ misread last22 (one ++ lent 49) (Add (plain 12 1 1 ++ (0 ∷ []))) 152
    ∷ misread new_alone (usual (name ∷ []) (plain 12 1 1 ∷ other ∷ []) []) (Remove 1) 152
    ∷ misread first16 one (Add (plain 12 1 1)) 152
    ∷ misread report16 one (Add other) 152
    ∷ misread book16 (one ++ lent 48) (Add other) 151
    ∷ misread whole_buffer (one ++ lent 48) (Add other) 152
    ∷ []

checks-caught : T (every caught misreadings)
unfolding movement_computed misreadings
checks-caught = tt

-- ---- other readings of the bytes, on a book of two assets with a mitigant each

abbrev each : List ℕ
each = usual (name ∷ bank ∷ []) (covered 7 1 1 300 ∷ covered 7 1 1 400 ∷ []) (mitigant 1 17 2 30 ∷ mitigant 4 8 2 40 ∷ [])

-- the record behind the mitigants; N not followed; the total raised by its value
abbrev record_last : List ℕ → List ℕ → List ℕ
record_last b r = front_of b (N b + 1) (K b) ++ (drop (asset_start b 1) b ++ r)

abbrev count_kept : List ℕ → List ℕ → List ℕ
count_kept b r = front_of b (N b) (K b) ++ (slice b (asset_start b 1) (asset_size * N b) ++ (r ++ drop (mitigant_start b 1) b))

abbrev total_raised : List ℕ → List ℕ → List ℕ
total_raised b r = placed (with_asset b r) 16 (bytes64 (total b + u64_at r 8))

-- the asset's mitigants stay, counted or not; the book's first ones go; the bytes are not closed up
abbrev asset_alone : ℕ → List ℕ → ℕ → List ℕ
asset_alone k b place =
    front_of b (N b - 1) k ++ (slice b (asset_start b 1) (asset_size * (place - 1)) ++ drop (asset_start b (place + 1)) b)

abbrev first_ones : List ℕ → ℕ → List ℕ
first_ones b place =
    let count = (asset_at b place).count in
    front_of b (N b - 1) (K b - count)
    ++ (slice b (asset_start b 1) (asset_size * (place - 1)) ++ (slice b (asset_start b (place + 1)) (asset_size * (N b - place)) ++ drop (mitigant_start b (1 + count)) b))

abbrev emptied : List ℕ → ℕ → List ℕ
emptied b place = placed b (asset_start b place) (replicate asset_size 0)

unfoldable bytes_caught : List Bool
bytes_caught =
    not (same (record_last each other) (with_asset each other))
    ∷ not (same (count_kept each other) (with_asset each other))
    ∷ not (same (total_raised each other) (with_asset each other))
    ∷ not (same (asset_alone (K each) each 2) (without_asset each 2))
    ∷ not (same (asset_alone (K each - 1) each 2) (without_asset each 2))
    ∷ not (same (first_ones each 2) (without_asset each 2))
    ∷ not (same (emptied each 2) (without_asset each 2))
    -- which of them go does not show where the first asset goes
    ∷ same (first_ones each 1) (without_asset each 1)
    ∷ []

bytes-caught : T (every (λ t. t) bytes_caught)
unfolding movement_computed bytes_caught
bytes-caught = tt
