use Rattle.std.proofs.Common.{◌≡◌, ◌∙◌, sym, length}
use Rattle.std.proofs.lemmas.Result.{err_from_is_err_and}
use Rattle.pg_metis.specs.Ahead.{Passes}
use Rattle.pg_metis.proofs.AheadContent.{of-text}
use Rattle.pg_metis.proofs.PartsTexts.{IsAtStart, end-refused, lines-refused, no-fault, not-refused, parts-of-text, refused-as}
use Rattle.pg_metis.proofs.ToldLemmas.{told-if}
use Rattle.pg_metis.proofs.parts_files.read_parts.Goals as goal

pub returns-in_err-parts-clause-refused : goal.returns-in_err-parts-clause-refused
returns-in_err-parts-clause-refused g c =
    let p = err_from_is_err_and c.from_residual-in_err-parts.result c.from_residual-in_err-parts.ensures.1 in
    let left = g.I.Inputs.left c.args.inputs.now in
    let start : IsAtStart c.in_ok-reader.reader left = record { coming = c.in_ok-reader.ensures.coming left; lines = c.in_ok-reader.ensures.lines } in
    rw (p.1, p.2) (lines-refused c.in_ok-reader.reader left c.args.n c.args.ranks c.in_err-parts.field-0.0 start c.in_err-parts.ensures.refused)

pub returns-in_err-parts-clause-malformed : goal.returns-in_err-parts-clause-malformed
returns-in_err-parts-clause-malformed g c =
    let p = err_from_is_err_and c.from_residual-in_err-parts.result c.from_residual-in_err-parts.ensures.1 in
    let left = g.I.Inputs.left c.args.inputs.now in
    let start : IsAtStart c.in_ok-reader.reader left = record { coming = c.in_ok-reader.ensures.coming left; lines = c.in_ok-reader.ensures.lines } in
    rw (p.1, p.2) (refused-as left c.args.n c.args.ranks c.in_err-parts.field-0.0 (lines-refused c.in_ok-reader.reader left c.args.n c.args.ranks c.in_err-parts.field-0.0 start c.in_err-parts.ensures.refused))

pub returns-in_err-parts-clause-well_formed : goal.returns-in_err-parts-clause-well_formed
returns-in_err-parts-clause-well_formed g c =
    let p = err_from_is_err_and c.from_residual-in_err-parts.result c.from_residual-in_err-parts.ensures.1 in
    let left = g.I.Inputs.left c.args.inputs.now in
    let start : IsAtStart c.in_ok-reader.reader left = record { coming = c.in_ok-reader.ensures.coming left; lines = c.in_ok-reader.ensures.lines } in
    rw (p.1, p.2) (not-refused left c.args.n c.args.ranks c.in_err-parts.field-0.0 (lines-refused c.in_ok-reader.reader left c.args.n c.args.ranks c.in_err-parts.field-0.0 start c.in_err-parts.ensures.refused))

pub returns-in_err-read_end-clause-refused : goal.returns-in_err-read_end-clause-refused
returns-in_err-read_end-clause-refused g c =
    let p = err_from_is_err_and c.from_residual-in_err-read_end.result c.from_residual-in_err-read_end.ensures.1 in
    let left = g.I.Inputs.left c.args.inputs.now in
    let start : IsAtStart c.in_ok-reader.reader left = record { coming = c.in_ok-reader.ensures.coming left; lines = c.in_ok-reader.ensures.lines } in
    let long : length c.in_ok-parts.parts.items ≡ c.args.n = sym c.in_ok-parts.parts.ok.0 ∙ c.in_ok-parts.ensures.count in
    rw (p.1, p.2) (end-refused c.in_ok-reader.reader left c.args.n c.args.ranks c.in_ok-parts.parts.items _ c.in_err-read_end.field-0.0 start long c.in_ok-parts.ensures.ok c.in_ok-parts.ensures.below c.in_err-read_end.ensures.refused)

pub returns-in_err-read_end-clause-malformed : goal.returns-in_err-read_end-clause-malformed
returns-in_err-read_end-clause-malformed g c =
    let p = err_from_is_err_and c.from_residual-in_err-read_end.result c.from_residual-in_err-read_end.ensures.1 in
    let left = g.I.Inputs.left c.args.inputs.now in
    let start : IsAtStart c.in_ok-reader.reader left = record { coming = c.in_ok-reader.ensures.coming left; lines = c.in_ok-reader.ensures.lines } in
    let long : length c.in_ok-parts.parts.items ≡ c.args.n = sym c.in_ok-parts.parts.ok.0 ∙ c.in_ok-parts.ensures.count in
    rw (p.1, p.2) (refused-as left c.args.n c.args.ranks c.in_err-read_end.field-0.0 (end-refused c.in_ok-reader.reader left c.args.n c.args.ranks c.in_ok-parts.parts.items _ c.in_err-read_end.field-0.0 start long c.in_ok-parts.ensures.ok c.in_ok-parts.ensures.below c.in_err-read_end.ensures.refused))

pub returns-in_err-read_end-clause-well_formed : goal.returns-in_err-read_end-clause-well_formed
returns-in_err-read_end-clause-well_formed g c =
    let p = err_from_is_err_and c.from_residual-in_err-read_end.result c.from_residual-in_err-read_end.ensures.1 in
    let left = g.I.Inputs.left c.args.inputs.now in
    let start : IsAtStart c.in_ok-reader.reader left = record { coming = c.in_ok-reader.ensures.coming left; lines = c.in_ok-reader.ensures.lines } in
    let long : length c.in_ok-parts.parts.items ≡ c.args.n = sym c.in_ok-parts.parts.ok.0 ∙ c.in_ok-parts.ensures.count in
    rw (p.1, p.2) (not-refused left c.args.n c.args.ranks c.in_err-read_end.field-0.0 (end-refused c.in_ok-reader.reader left c.args.n c.args.ranks c.in_ok-parts.parts.items _ c.in_err-read_end.field-0.0 start long c.in_ok-parts.ensures.ok c.in_ok-parts.ensures.below c.in_err-read_end.ensures.refused))

pub returns-clause-ok : goal.returns-clause-ok
returns-clause-ok g c =
    let left = g.I.Inputs.left c.args.inputs.now in
    let start : IsAtStart c.in_ok-reader.reader left = record { coming = c.in_ok-reader.ensures.coming left; lines = c.in_ok-reader.ensures.lines } in
    let long : length c.in_ok-parts.parts.items ≡ c.args.n = sym c.in_ok-parts.parts.ok.0 ∙ c.in_ok-parts.ensures.count in
    parts-of-text c.in_ok-reader.reader left c.args.n c.args.ranks c.in_ok-parts.parts.items _ start long c.in_ok-parts.ensures.ok c.in_ok-parts.ensures.below c.in_ok-read_end.ensures.ok

pub returns-clause-end : goal.returns-clause-end
returns-clause-end g c =
    let reader = c.in_ok-reader.reader in
    let left = g.I.Inputs.left c.args.inputs.now in
    let takes = c.in_ok-parts.ensures.ok in
    of-text reader left (λ _. _) (c.in_ok-reader.ensures.coming left) c.in_ok-reader.ensures.lines
    (told-if _ _ (Passes takes.lines) _ (λ _. _) takes.told c.in_ok-read_end.ensures.end (λ was now passes end. end))

pub returns-clause-malformed : goal.returns-clause-malformed
returns-clause-malformed g c =
    let left = g.I.Inputs.left c.args.inputs.now in
    let start : IsAtStart c.in_ok-reader.reader left = record { coming = c.in_ok-reader.ensures.coming left; lines = c.in_ok-reader.ensures.lines } in
    let long : length c.in_ok-parts.parts.items ≡ c.args.n = sym c.in_ok-parts.parts.ok.0 ∙ c.in_ok-parts.ensures.count in
    no-fault left c.args.n c.args.ranks c.in_ok-parts.parts.items
    (parts-of-text c.in_ok-reader.reader left c.args.n c.args.ranks c.in_ok-parts.parts.items _ start long c.in_ok-parts.ensures.ok c.in_ok-parts.ensures.below c.in_ok-read_end.ensures.ok)
