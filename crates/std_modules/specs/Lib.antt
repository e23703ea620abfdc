pub mod StdTexts
