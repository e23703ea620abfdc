use Rattle.family_facts.proofs.Once.{members-differ}
use Rattle.family_levels.proofs.InTexts.{files-stand}
use Rattle.family_levels.proofs.standing.files_stand_in_text.Goals as goal

pub returns : goal.returns
returns c files modules distinct are =
    files-stand c.one_front.ensures.same
    (record {
      faults = c.faults_stand_in_text.ensures;
      levels = c.level_faults_stand_in_text.ensures;
      uses = c.uses_stand_in_text.ensures;
      decls = c.decls_stand_in_text.ensures;
      texts = c.modules_are_texts.ensures;
      nodes = c.front_nodes_placed.ensures;
      words = c.front_words_lie.ensures;
    })
    files (members-differ files distinct) modules are
