use Rattle.std.proofs.Common.{◌≡◌, map, drop, vec_items}
use Rattle.cli.specs.declared.scan.Expects.TheVariants.{Word}
use Rattle.cli.specs.Line.{item}
use Rattle.cli.specs.Scan.{scan_from, words_of}
use Rattle.cli.proofs.Words.{items_before}
use Rattle.cli.proofs.scan.scan.Given as goal

abbrev pub invariant-loop-word : goal.invariant-loop-word
invariant-loop-word l =
    items_before (map item (vec_items l.all)) (scan_from l.program l.expects (words_of (drop l.word-index l.words)))
    ≡ scan_from l.program Word (words_of l.words)
