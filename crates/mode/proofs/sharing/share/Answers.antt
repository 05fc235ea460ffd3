use Rattle.std.proofs.Common.{rules, ◌≡◌, ◌-◌, ◌<◌, ◌≤◌, ap, arith}
use Rattle.mode.specs.Shares.{words, unsent}
use Rattle.mode.proofs.Splits.{all_shared, words_room, unsent_below, unsent_is}
use Rattle.mode.proofs.sharing.share.Goals as goal

pub returns-then-not-contains-clause-whole : goal.returns-then-not-contains-clause-whole
returns-then-not-contains-clause-whole c = all_shared

pub returns-then-word-words-clause-whole : goal.returns-then-word-words-clause-whole
returns-then-word-words-clause-whole c = all_shared

pub overflow_mul-words : goal.overflow_mul-words
overflow_mul-words c = let some : 1 ≤ c.args.k = search rules in rw c.word_count-words.ensures (let h : c.args.k ≤ 63 = search rules in let b : c.args.n ≤ 65535 = search rules in omega (arith, words_room c.args.k c.args.n some))

pub overflow_sub-words : goal.overflow_sub-words
overflow_sub-words c = let some : 1 ≤ c.args.k = search rules in rw c.word_count-words.ensures (words_room c.args.k c.args.n some).0

-- what the code takes for the unsent bits of the word
told : (c : goal.After-spare-unsent) → c.spare-unsent.result ≡ unsent c.args.k c.args.n c.args.word
told c = unsent_is c.args.k c.args.n c.args.word c.word_count-words.result c.spare-unsent.result c.word_count-words.ensures c.spare-unsent.ensures

there : (c : goal.After-spare-unsent) → c.args.word < words c.args.k c.args.n
there c = rw c.word_count-words.ensures at c.if-word-words.false

pub overflow_sub-result : goal.overflow_sub-result
overflow_sub-result c = let some : 1 ≤ c.args.k = search rules in omega (arith, told c, unsent_below c.args.k c.args.n c.args.word some (there c))

pub returns-clause-answer : goal.returns-clause-answer
returns-clause-answer c =
    (record { some = search rules; narrow = search rules; bits = search rules; few = search rules; there = there c }, ap (λ u. c.args.k - u) (told c), told c)

pub returns-clause-whole : goal.returns-clause-whole
returns-clause-whole c = all_shared
