use Rattle.unit_tables.proofs.moves.frame_move.Goals as goal

pub returns-in-Declaration : goal.returns-in-Declaration
returns-in-Declaration c = rw c.in-Declaration.is c.at_declaration.ensures

pub returns-in-DeclarationName : goal.returns-in-DeclarationName
returns-in-DeclarationName c = rw c.in-DeclarationName.is c.at_declared_name.ensures

pub returns-in-Places : goal.returns-in-Places
returns-in-Places c = rw (c.in-Places.is, c.if_move.ensures, c.is_underscore.ensures)

pub returns-in-PlacesRead : goal.returns-in-PlacesRead
returns-in-PlacesRead c = rw c.in-PlacesRead.is c.at_places_read.ensures

pub returns-in-PrefixPlace : goal.returns-in-PrefixPlace
returns-in-PrefixPlace c = rw (c.in-PrefixPlace.is, c.if_move-in-PrefixPlace.ensures, c.is_underscore-in-PrefixPlace.ensures)

pub returns-in-SymbolPlace : goal.returns-in-SymbolPlace
returns-in-SymbolPlace c = rw c.in-SymbolPlace.is c.at_symbol_place.ensures

pub returns-in-InfixPlace : goal.returns-in-InfixPlace
returns-in-InfixPlace c = rw (c.in-InfixPlace.is, c.if_move-in-InfixPlace.ensures, c.is_underscore-in-InfixPlace.ensures)

pub returns-in-DefinitionName : goal.returns-in-DefinitionName
returns-in-DefinitionName c = rw c.in-DefinitionName.is c.at_definition_name.ensures

pub returns-in-ParametersRead : goal.returns-in-ParametersRead
returns-in-ParametersRead c = rw c.in-ParametersRead.is c.at_parameters_read.ensures

pub returns-in-Define : goal.returns-in-Define
returns-in-Define c = rw (c.in-Define.is, c.if_move-in-Define.ensures, c.is_define.ensures)

pub returns-in-Body : goal.returns-in-Body
returns-in-Body c = rw c.in-Body.is c.at_body.ensures

pub returns-in-PrefixName : goal.returns-in-PrefixName
returns-in-PrefixName c = rw (c.in-PrefixName.is, c.if_move-in-PrefixName.ensures, c.is_name.ensures)

pub returns-in-PrefixDefine : goal.returns-in-PrefixDefine
returns-in-PrefixDefine c = rw c.in-PrefixDefine.is c.right_side.ensures

pub returns-in-InfixName : goal.returns-in-InfixName
returns-in-InfixName c = rw (c.in-InfixName.is, c.if_move-in-InfixName.ensures, c.is_name-in-InfixName.ensures)

pub returns-in-InfixDefine : goal.returns-in-InfixDefine
returns-in-InfixDefine c = rw c.in-InfixDefine.is c.right_side-in-InfixDefine.ensures

pub returns-in-PostfixDefine : goal.returns-in-PostfixDefine
returns-in-PostfixDefine c = rw c.in-PostfixDefine.is c.right_side-in-PostfixDefine.ensures

pub returns-in-BoundsRead : goal.returns-in-BoundsRead
returns-in-BoundsRead c = rw (c.in-BoundsRead.is, c.if_move-in-BoundsRead.ensures, c.is_right_bracket.ensures)

pub returns-in-BoundsDefine : goal.returns-in-BoundsDefine
returns-in-BoundsDefine c = rw c.in-BoundsDefine.is c.right_side-in-BoundsDefine.ensures

pub returns-in-Right : goal.returns-in-Right
returns-in-Right c = rw c.in-Right.is

pub returns-in-InstanceName : goal.returns-in-InstanceName
returns-in-InstanceName c = rw (c.in-InstanceName.is, c.if_move-in-InstanceName.ensures, c.is_name-in-InstanceName.ensures)

pub returns-in-InstanceRead : goal.returns-in-InstanceRead
returns-in-InstanceRead c = rw c.in-InstanceRead.is c.at_instance_read.ensures

pub returns-in-ReplacementsRead : goal.returns-in-ReplacementsRead
returns-in-ReplacementsRead c = rw c.in-ReplacementsRead.is c.at_replacements_read.ensures

pub returns-in-ReplacementStart : goal.returns-in-ReplacementStart
returns-in-ReplacementStart c = rw (c.in-ReplacementStart.is, c.if_move-in-ReplacementStart.ensures, c.is_replaceable.ensures)

pub returns-in-ReplacementArrow : goal.returns-in-ReplacementArrow
returns-in-ReplacementArrow c = rw (c.in-ReplacementArrow.is, c.if_move-in-ReplacementArrow.ensures, c.is_left_arrow.ensures)

pub returns-in-ReplacementRight : goal.returns-in-ReplacementRight
returns-in-ReplacementRight c = rw c.in-ReplacementRight.is c.at_replacement_right.ensures

pub returns-in-Complete : goal.returns-in-Complete
returns-in-Complete c = rw c.in-Complete.is
