use Rattle.std.proofs.Common.{rules, sym, ◌∙◌}
use Rattle.text_heading.specs.Heading.{judged}
use Rattle.text_heading.specs.declared.Word.TheVariants.{Stations}
use Rattle.text_heading.proofs.Range.{fitting_err}
use Rattle.text_heading.proofs.judged.Goals as goal

pub returns-in_err-fitting : goal.returns-in_err-fitting
unfolding judged
returns-in_err-fitting c =
    rw (fitting_err Stations c.args.named c.in_err-fitting.field-0.0 _ (sym c.fitting.ensures ∙ c.in_err-fitting.was)) (search rules)
