-- `questions::put_answers` meets its contract. The loop's invariant: the answers to the questions below k are put.
use mathlib.Core.Path.{◌≡◌}
use lib.ListN.{length, take}
use Rattle.wire.specs.Bytes.{placed}
use Rattle.wire.specs.Amounts.{amounts_bytes}
use Rattle.headroom.specs.Headroom.{RankedBy}
use Rattle.questions.specs.Tables.{answers_at}
use Rattle.questions.proofs.put_answers.Given as goal

abbrev pub invariant-loop-k : goal.invariant-loop-k
invariant-loop-k l = (length l.answers ≡ length l.initial.answers) × ((q : RankedBy l.limits l.ranking) → l.answers ≡ placed l.initial.answers 0 (amounts_bytes (take l.k (answers_at q.order l.limits l.words l.rows l.cells l.questions l.n))))
