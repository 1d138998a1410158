use Rattle.std.proofs.Common.{◌≡◌, List, refl, sym, ap, ◌∙◌, subst}
use Rattle.pg_base.specs.declared.TheConstants.{MAX_VERTICES}
use Rattle.pg_group.specs.declared.messages.Body.{Body}
use Rattle.pg_group.specs.declared.messages.Body.TheVariants.{Item}
use Rattle.pg_group.specs.Ranked.{append_at}
use Rattle.pg_boruvka.specs.declared.messages.Message.{Message}
use Rattle.pg_boruvka.specs.declared.messages.Message.TheVariants.{Piece as Keys, Hook as Hooked}
use Rattle.pg_boruvka.specs.Known.{View, view_of}
use Rattle.pg_boruvka.specs.Shown.{HasChosen}
use Rattle.pg_boruvka.proofs.Taking.{merged_keeps, taken_keeps}
use Rattle.pg_boruvka.proofs.Regular.{regular_of}
use Rattle.pg_boruvka.proofs.programs.DenseProgram.handle.Goals as goal

pub returns-in-Piece-clause-kept : goal.returns-in-Piece-clause-kept
returns-in-Piece-clause-kept c = λ start handled sent kept.
    let d = c.args.self.now in
    let said = c.merge.ensures in
    record {
      part = ap (λ (v : View). v.part) said.rest ∙ kept.part;
      chosen =
          subst (λ (m : Message). HasChosen MAX_VERTICES (append_at handled c.args._from.0 (Item m)) sent (view_of c.merge.new.self)) (sym c.in-Piece.is)
          (subst (HasChosen MAX_VERTICES (append_at handled c.args._from.0 (Item (Keys c.in-Piece.piece))) sent) (sym said.rest)
          (merged_keeps MAX_VERTICES handled sent (view_of d) c.args._from.0 c.in-Piece.piece c.merge.new.self.tables.winners.items (regular_of d).rank c.requires said.merged kept.chosen));
    }

pub returns-in-Hook-clause-kept : goal.returns-in-Hook-clause-kept
returns-in-Hook-clause-kept c = λ start handled sent kept.
    let d = c.args.self.now in
    let said = c.note.ensures in
    record {
      part = ap (λ (v : View). v.part) said.rest ∙ kept.part;
      chosen =
          subst (λ (m : Message). HasChosen MAX_VERTICES (append_at handled c.args._from.0 (Item m)) sent (view_of c.note.new.self)) (sym c.in-Hook.is)
          (subst (HasChosen MAX_VERTICES (append_at handled c.args._from.0 (Item (Hooked c.in-Hook.hook))) sent) (sym said.rest)
          (taken_keeps MAX_VERTICES handled sent (view_of d) c.args._from.0 c.in-Hook.hook c.note.new.self.tables.hooks.targets.items c.note.new.self.tables.hooks.edges.items (regular_of d).rank c.requires said.taken kept.chosen));
    }
